use Rattle.std.proofs.Common.{◌≡◌, drop, map}
use Rattle.spec_plan.specs.Reading.{named_among}
use Rattle.db_cat.specs.Rows.{row_of}
use Rattle.db_alloc.proofs.find.take_named.Given as goal

abbrev pub invariant-loop-i : goal.invariant-loop-i
invariant-loop-i l = record {
  same : l.rows.items ≡ l.fn.rows.items;
  named : named_among (map row_of l.fn.rows.items) l.name ≡ named_among (map row_of (drop l.i l.rows.items)) l.name;
}
