use Rattle.std.proofs.Common.{refl, ap, ◌∙◌}
use Rattle.spec_words.specs.NetChanges.{FileShape}
use Rattle.db_cat.specs.Rows.{row_of}
use Rattle.db_locks.proofs.PlanLaws.{does_after, does_more}
use Rattle.db_alloc.specs.declared.find.FindStop.TheVariants.{Page}
use Rattle.db_alloc.specs.Tables.{numbers}
use Rattle.db_alloc.proofs.Steps.{does_plan, does_ok, does_exit_as}
use Rattle.db_heap.specs.declared.insert.InsertStop.TheVariants.{Find}
use Rattle.db_heap.specs.InsertPlans.{row_placed}
use Rattle.db_heap.proofs.InsertSteps.{pages_known}
use Rattle.db_heap.proofs.insert.insert_row.Goals as goal

pub returns-in_err-pages : goal.returns-in_err-pages
returns-in_err-pages g c = λ name. does_exit_as _ _ (Find (Page c.in_err-pages.field-0.0)) _ refl c.in_err-pages.ensures.does c.from_residual.ensures.1

pub returns-in_err-take : goal.returns-in_err-take
returns-in_err-take g c = λ name.
    does_after _ (does_ok c.in_ok-pages.ensures.does) (does_exit_as _ _ (Find (Page c.in_err-take.field-0.0)) _ refl (does_more _ c.in_err-take.ensures.take) c.from_residual-in_err-take.ensures.1)

pub returns : goal.returns
returns g c = λ name.
    let row = row_of c.args.table.now.row in
    let same = ap numbers c.deref.ensures.value in
    let takes = c.in_ok-take.ensures.take in
    does_after _ (does_ok c.in_ok-pages.ensures.does)
    (does_after _ (does_ok (does_more _ takes))
    (does_plan (ap (λ (shape : FileShape). row_placed shape row c.args.row.now (numbers c.deref.result.now)) (takes.stays.shape ∙ c.in_ok-pages.ensures.does.stays.shape)
    ∙ ap (row_placed (g.P.PlanPages.state c.args.v.now).view.shape row c.args.row.now) same)
    (c.place_row.ensures name _ (λ told. pages_known row _ _ _ same c.in_ok-pages.ensures.does takes.stays told))))
