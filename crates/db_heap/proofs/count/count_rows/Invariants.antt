use Rattle.std.proofs.Common.{◌*◌, ◌≤◌, drop}
use Rattle.db_cat.specs.Rows.{row_of}
use Rattle.db_alloc.specs.Tables.{numbers}
use Rattle.db_heap.proofs.CountSteps.{Counted}
use Rattle.db_heap.proofs.count.count_rows.Given as goal

abbrev pub invariant-loop-p : goal.invariant-loop-p
invariant-loop-p g l = record {
  counted : Counted (g.P.PlanPages.state l.fn.v) (g.P.PlanPages.state l.v) (row_of l.table.row) (numbers l.pages) (numbers (drop l.p-index l.pages)) l.sum;
  low : l.sum ≤ 65535 * l.p-index;
}
