use Rattle.std.proofs.Common.{drop}
use Rattle.db_cat.specs.Rows.{row_of}
use Rattle.db_alloc.specs.Tables.{numbers}
use Rattle.db_heap.proofs.SelectSteps.{Gathered}
use Rattle.db_heap.proofs.select.find_payloads.Given as goal

abbrev pub invariant-loop-p : goal.invariant-loop-p
invariant-loop-p g l = Gathered (g.P.PlanPages.state l.fn.v) (g.P.PlanPages.state l.v) (row_of l.table.row) l.key (numbers l.pages) (numbers (drop l.p-index l.pages)) l.found.items
