use Rattle.std.proofs.Common.{refl, sym, ◌∙◌, subst}
use Rattle.spec_plan.specs.Reading.{first_page}
use Rattle.spec_words.specs.NetChanges.{FileShape}
use Rattle.db_locks.proofs.PlanLaws.{does_more}
use Rattle.db_alloc.specs.Maps.{IsOwnable}
use Rattle.db_alloc.specs.Tables.{numbers}
use Rattle.db_alloc.proofs.ObjectSteps.{then_given}
use Rattle.db_alloc.proofs.SingleSteps.{does_next}
use Rattle.db_alloc.proofs.Steps.{does_exit_as}
use Rattle.db_alloc.proofs.slot.take_in_slot.Goals as goal

pub put_slot-requires-clause-ownable : goal.put_slot-requires-clause-ownable
put_slot-requires-clause-ownable g c = subst (λ (s : FileShape). IsOwnable s (first_page (numbers c.args.chain.now))) (sym c.in_ok-take_page.ensures.does.stays.shape) c.requires.first

pub returns-in_err-take_page : goal.returns-in_err-take_page
returns-in_err-take_page g c = λ looked before. does_exit_as _ _ c.in_err-take_page.field-0.0 _ refl (does_more looked c.in_err-take_page.ensures.does) c.from_residual.ensures.1

pub returns : goal.returns
returns g c = λ looked before.
    does_next _ (does_more looked c.in_ok-take_page.ensures.does)
    (then_given c.args.p.0 c.put_slot.result (c.put_slot.ensures looked (λ told. before (sym c.in_ok-take_page.ensures.does.stays.told ∙ told))))
