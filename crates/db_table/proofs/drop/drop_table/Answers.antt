use Rattle.std.proofs.Common.{refl, sym, ap, ◌∙◌}
use Rattle.spec_file.specs.CatalogRows.{CatalogRow}
use Rattle.spec_words.specs.NetChanges.{FileShape}
use Rattle.db_cat.specs.Rows.{row_of}
use Rattle.db_locks.proofs.PlanLaws.{does_after}
use Rattle.db_alloc.specs.declared.find.FindStop.TheVariants.{Page}
use Rattle.db_alloc.proofs.Steps.{does_plan, does_ok, does_exit_as}
use Rattle.db_table.specs.Drops.{table_dropped}
use Rattle.db_alloc.proofs.LastSteps.{last_exit}
use Rattle.db_table.proofs.Steps.{table_reached}
use Rattle.db_table.proofs.drop.drop_table.Goals as goal

pub returns-in_err-row : goal.returns-in_err-row
returns-in_err-row g c = does_exit_as _ _ c.in_err-row.field-0.0 _ refl c.in_err-row.ensures c.from_residual-in_err-row.ensures.1

pub returns-in_err-drop_found : goal.returns-in_err-drop_found
returns-in_err-drop_found g c =
    let found = c.in_ok-row.ensures in
    does_after (λ (row : CatalogRow). table_dropped (g.P.PlanPages.state c.args.v.now).view.shape row) found
    (does_plan (ap (λ (shape : FileShape). table_dropped shape (row_of c.in_ok-row.row)) found.stays.shape)
    (last_exit _ (Page c.in_err-drop_found.field-0.0) _ refl (c.in_err-drop_found.ensures _ (λ told. table_reached c.args.name.now found (sym found.stays.told ∙ told))) c.from_residual-in_err-drop_found.ensures.1))

pub returns : goal.returns
returns g c =
    let found = c.in_ok-row.ensures in
    does_after (λ (row : CatalogRow). table_dropped (g.P.PlanPages.state c.args.v.now).view.shape row) found
    (does_plan (ap (λ (shape : FileShape). table_dropped shape (row_of c.in_ok-row.row)) found.stays.shape)
    (does_ok (c.in_ok-drop_found.ensures _ (λ told. table_reached c.args.name.now found (sym found.stays.told ∙ told)))))
