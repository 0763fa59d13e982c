use Rattle.std.proofs.Common.{refl, sym, ap, ◌∙◌, subst, Some, None}
use Rattle.spec_plan.specs.Reading.{first_page}
use Rattle.spec_words.specs.NetChanges.{FileShape}
use Rattle.spec_alloc.specs.SinglePages.{single_page}
use Rattle.db_locks.proofs.PlanLaws.{does_more, does_give}
use Rattle.db_alloc.specs.Maps.{IsOwnable}
use Rattle.db_alloc.specs.Tables.{numbers}
use Rattle.db_alloc.proofs.SingleSteps.{does_next, found_as}
use Rattle.db_alloc.proofs.Steps.{does_plan, does_exit_as}
use Rattle.db_alloc.proofs.slot.page_in_slot.Goals as goal

pub returns-in_err-p-clause-does : goal.returns-in_err-p-clause-does
returns-in_err-p-clause-does g c = λ looked before.
    let a = g.P.PlanPages.state c.args.v.now in
    does_exit_as _ _ c.in_err-p.field-0.0 _ refl (does_more looked (does_plan (ap (single_page a.view.shape) c.expected.ensures) c.in_err-p.ensures.does)) c.from_residual.ensures.1

pub take_in_slot-requires-clause-first : goal.take_in_slot-requires-clause-first
take_in_slot-requires-clause-first g c = subst (λ (s : FileShape). IsOwnable s (first_page (numbers c.args.chain.now))) (sym c.in_ok-p.ensures.does.stays.shape) c.requires.first

pub returns-in_err-take_in_slot-in-Some-clause-does : goal.returns-in_err-take_in_slot-in-Some-clause-does
returns-in_err-take_in_slot-in-Some-clause-does g c = λ looked before.
    let a = g.P.PlanPages.state c.args.v.now in
    does_next _ (does_more looked (does_plan (ap (single_page a.view.shape) c.expected.ensures) (found_as _ (Some c.in-Some.p) c.in-Some.is c.in_ok-p.ensures.does)))
    (does_exit_as _ _ c.in_err-take_in_slot-in-Some.field-0.0 _ refl (c.in_err-take_in_slot-in-Some.ensures looked (λ told. before (sym c.in_ok-p.ensures.does.stays.told ∙ told))) c.from_residual-in_err-take_in_slot-in-Some.ensures.1)

pub returns-in_ok-take_in_slot-in-Some-clause-does : goal.returns-in_ok-take_in_slot-in-Some-clause-does
returns-in_ok-take_in_slot-in-Some-clause-does g c = λ looked before.
    let a = g.P.PlanPages.state c.args.v.now in
    let d = g.P.PlanPages.state c.take_in_slot.new.v in
    does_next _ (does_more looked (does_plan (ap (single_page a.view.shape) c.expected.ensures) (found_as _ (Some c.in-Some.p) c.in-Some.is c.in_ok-p.ensures.does)))
    (does_next _ (c.in_ok-take_in_slot-in-Some.ensures looked (λ told. before (sym c.in_ok-p.ensures.does.stays.told ∙ told))) (does_give looked d (Some c.in-Some.p.0)))

pub returns-in-None-clause-does : goal.returns-in-None-clause-does
returns-in-None-clause-does g c = λ looked before.
    let a = g.P.PlanPages.state c.args.v.now in
    let b = g.P.PlanPages.state c.single_page.new.v in
    does_next _ (does_more looked (does_plan (ap (single_page a.view.shape) c.expected.ensures) (found_as _ None c.in-None.is c.in_ok-p.ensures.does))) (does_give looked b None)
