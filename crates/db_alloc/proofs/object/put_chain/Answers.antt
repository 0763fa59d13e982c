use Rattle.std.proofs.Common.{[], refl, sym, ap, ◌∙◌}
use Rattle.spec_words.specs.Words.{put_page as page_put}
use Rattle.spec_alloc.specs.Chains.{page_taken}
use Rattle.db_locks.proofs.PlanLaws.{does_after}
use Rattle.db_alloc.proofs.ObjectSteps.{then_given}
use Rattle.db_alloc.proofs.Steps.{does_plan, does_exit_as}
use Rattle.db_alloc.proofs.object.put_chain.Goals as goal

pub returns-in_err-take_page : goal.returns-in_err-take_page
returns-in_err-take_page g c = does_exit_as _ _ c.in_err-take_page.field-0.0 _ refl c.in_err-take_page.ensures.does c.from_residual.ensures.1

pub returns : goal.returns
returns g c =
    let a = g.P.PlanPages.state c.args.v.now in
    let reached = (page_taken [] c.args.q.0 a.view).reached in
    does_after _ c.in_ok-take_page.ensures.does
    (then_given c.args.q.0 c.put_page.result (does_plan (ap (page_put c.args.q.0) c.fill_iam.ensures)
    (c.put_page.ensures reached (λ told. c.in_ok-take_page.ensures.reached (sym c.in_ok-take_page.ensures.does.stays.told ∙ told)))))
