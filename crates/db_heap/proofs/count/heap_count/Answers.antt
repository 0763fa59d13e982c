use Rattle.std.proofs.Common.{refl, ap}
use Rattle.spec_words.specs.NetChanges.{FileShape}
use Rattle.spec_file.specs.CatalogRows.{CatalogRow}
use Rattle.db_cat.specs.Rows.{row_of}
use Rattle.db_locks.proofs.PlanLaws.{does_then}
use Rattle.db_alloc.specs.declared.find.FindStop.TheVariants.{Page}
use Rattle.db_alloc.proofs.Steps.{does_plan, does_ok, does_exit_as}
use Rattle.db_heap.specs.Counts.{table_counted}
use Rattle.db_alloc.proofs.LastSteps.{last_exit}
use Rattle.db_heap.proofs.count.heap_count.Goals as goal

pub returns-in_err-row : goal.returns-in_err-row
returns-in_err-row g c = does_exit_as _ _ c.in_err-row.field-0.0 _ refl c.in_err-row.ensures c.from_residual-in_err-row.ensures.1

pub returns-in_err-count_table : goal.returns-in_err-count_table
returns-in_err-count_table g c =
    does_then (λ (row : CatalogRow). table_counted (g.P.PlanPages.state c.args.v.now).view.shape row) c.in_ok-row.ensures
    (does_plan (ap (λ (shape : FileShape). table_counted shape (row_of c.in_ok-row.row)) c.in_ok-row.ensures.stays.shape)
    (last_exit _ (Page c.in_err-count_table.field-0.0) _ refl c.in_err-count_table.ensures c.from_residual-in_err-count_table.ensures.1))

pub returns : goal.returns
returns g c =
    does_then (λ (row : CatalogRow). table_counted (g.P.PlanPages.state c.args.v.now).view.shape row) c.in_ok-row.ensures
    (does_plan (ap (λ (shape : FileShape). table_counted shape (row_of c.in_ok-row.row)) c.in_ok-row.ensures.stays.shape) (does_ok c.in_ok-count_table.ensures))
