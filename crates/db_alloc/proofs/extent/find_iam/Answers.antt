use Rattle.std.proofs.Common.{List, Contains, Some, None, sym, ap, ◌∙◌, subst}
use Rattle.std.specs.Option.{option_map}
use Rattle.spec_file.specs.declared.data.PageNo.{PageNo}
use Rattle.spec_plan.specs.Changes.{last_of}
use Rattle.spec_alloc.specs.ObjectPages.{iam_of, new_iam}
use Rattle.db_cat.specs.Rows.{row_of}
use Rattle.db_locks.proofs.PlanLaws.{does_see, does_give}
use Rattle.db_alloc.specs.Tables.{numbers}
use Rattle.db_alloc.proofs.ExtentSteps.{iam_told}
use Rattle.db_alloc.proofs.GrowSteps.{interval_is, last_contained}
use Rattle.db_alloc.proofs.SingleSteps.{does_next}
use Rattle.db_alloc.proofs.Steps.{does_plan}
use Rattle.db_alloc.proofs.extent.find_iam.Goals as goal

pub returns-in-Some-clause-does : goal.returns-in-Some-clause-does
returns-in-Some-clause-does g c = λ looked before.
    let a = g.P.PlanPages.state c.args.v.now in
    let items = c.args.chain.now.numbers.items in
    let interval = interval_is c.args.reader.geometry a.view.shape.geometry c.interval_pages.result c.args.p.0 c.interval_pages.ensures c.requires.reader.geometry in
    does_next _ (does_see looked a (iam_of a.view.shape (numbers items) c.args.p.0) (Some c.in-Some.q.0) (λ told.
    sym (ap (option_map (λ (q : PageNo). q.0)) c.in-Some.is)
    ∙ iam_told a.view.shape a.view items _ c.args.chain.now.pages.items _ c.args.p.0 _ _ c.deref.ensures.value c.deref-2.ensures.value (c.requires.chain.read told) interval c.iam_of.ensures.first))
    (does_give looked a c.in-Some.q.0)

pub returns-in-None-clause-does : goal.returns-in-None-clause-does
returns-in-None-clause-does g c = λ looked before.
    let a = g.P.PlanPages.state c.args.v.now in
    let items = c.args.chain.now.numbers.items in
    let row = row_of c.args.table.now.row in
    let own = c.requires.chain in
    let interval = interval_is c.args.reader.geometry a.view.shape.geometry c.interval_pages.result c.args.p.0 c.interval_pages.ensures c.requires.reader.geometry in
    let at = c.deref-in-None.ensures.value in
    does_next _ (does_see looked a (iam_of a.view.shape (numbers items) c.args.p.0) None (λ told.
    sym (ap (option_map (λ (q : PageNo). q.0)) c.in-None.is)
    ∙ iam_told a.view.shape a.view items _ c.args.chain.now.pages.items _ c.args.p.0 _ _ c.deref.ensures.value c.deref-2.ensures.value (c.requires.chain.read told) interval c.iam_of.ensures.first))
    (does_plan (ap (λ (ps : List PageNo). new_iam a.view.shape row (numbers ps) (numbers c.args.path.now) c.args.p.0) at)
    (c.new_iam.ensures.does looked (λ told.
    before told (last_of 0 (numbers c.deref-in-None.result.now)) (subst (λ (ps : List PageNo). Contains (numbers items) (last_of 0 (numbers ps))) (sym at) (last_contained a.view.shape items own.is)))))
