use Rattle.std.proofs.Common.{ℕ, List, refl, ap, ◌∙◌}
use Rattle.spec_words.specs.NetChanges.{FileShape}
use Rattle.db_cat.specs.Rows.{row_of}
use Rattle.db_locks.proofs.PlanLaws.{does_then}
use Rattle.db_alloc.specs.Tables.{numbers}
use Rattle.db_alloc.proofs.Steps.{does_plan, does_exit_as}
use Rattle.db_heap.specs.Counts.{rows_counted}
use Rattle.db_heap.proofs.count.count_table.Goals as goal

pub returns-in_err-pages : goal.returns-in_err-pages
returns-in_err-pages g c = does_exit_as _ _ c.in_err-pages.field-0.0 _ refl c.in_err-pages.ensures.does c.from_residual.ensures.1

pub returns : goal.returns
returns g c =
    let row = row_of c.args.table.now.row in
    does_then (λ (ps : List ℕ). rows_counted (g.P.PlanPages.state c.args.v.now).view.shape row ps) c.in_ok-pages.ensures.does
    (does_plan (ap (λ (shape : FileShape). rows_counted shape row (numbers c.deref.result.now)) c.in_ok-pages.ensures.does.stays.shape
    ∙ ap (λ (ps : List ℕ). rows_counted (g.P.PlanPages.state c.args.v.now).view.shape row ps) (ap numbers c.deref.ensures.value)) c.count_rows.ensures)
