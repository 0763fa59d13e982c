use Rattle.std.proofs.Common.{◌≡◌, ◌++◌, take, drop}
use Rattle.spec_words.specs.Takes.{with_resource}
use Rattle.db_core.proofs.statement_view.add_resource.Given as goal

abbrev pub invariant-loop-i : goal.invariant-loop-i
invariant-loop-i l = record {
  same : l.list.items ≡ l.fn.list.items;
  rest : take l.i l.list.items ++ with_resource l.r (drop l.i l.list.items) ≡ with_resource l.r l.list.items;
}
