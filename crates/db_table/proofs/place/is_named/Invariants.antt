use Rattle.std.proofs.Common.{◌≡◌, map, drop}
use Rattle.std.specs.Prelude.{is_some}
use Rattle.spec_plan.specs.Reading.{named_among}
use Rattle.db_cat.specs.Rows.{row_of}
use Rattle.db_table.proofs.place.is_named.Given as goal

abbrev pub invariant-loop-row : goal.invariant-loop-row
invariant-loop-row l = is_some (named_among (map row_of l.rows) l.name) ≡ is_some (named_among (map row_of (drop l.row-index l.rows)) l.name)
