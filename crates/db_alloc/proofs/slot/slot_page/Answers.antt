use Rattle.std.proofs.Common.{IsTrue, List, Contains, Some, None, subst, sym, ap, ◌∙◌}
use Rattle.spec_file.specs.declared.data.PageNo.{PageNo}
use Rattle.spec_plan.specs.Reading.{first_page}
use Rattle.spec_alloc.specs.Search.{first_in}
use Rattle.spec_alloc.specs.Chains.{slots_with}
use Rattle.spec_alloc.specs.ObjectPages.{page_in_slot}
use Rattle.db_locks.proofs.PlanLaws.{does_see, does_give}
use Rattle.db_alloc.specs.Maps.{IsOwnable}
use Rattle.db_alloc.specs.Marks.{first_slots}
use Rattle.db_alloc.specs.Tables.{numbers}
use Rattle.db_alloc.proofs.SingleSteps.{does_next}
use Rattle.db_alloc.proofs.SlotSteps.{first_has, some_numbers, free_told}
use Rattle.db_alloc.proofs.Steps.{does_plan}
use Rattle.db_alloc.proofs.slot.slot_page.Goals as goal

pub page_in_slot-requires-clause-first : goal.page_in_slot-requires-clause-first
page_in_slot-requires-clause-first g c =
    let a = g.P.PlanPages.state c.args.v.now in
    subst (λ (ps : List PageNo). IsOwnable a.view.shape (first_page (numbers ps))) (sym c.deref-in-Some.ensures.value)
    (first_has (IsOwnable a.view.shape) (numbers c.args.chain.now.numbers.items) (some_numbers c.args.chain.now.numbers.items c.requires.chain.is.some) c.requires.chain.is.ownable)

pub returns-in-Some-clause-does : goal.returns-in-Some-clause-does
returns-in-Some-clause-does g c = λ looked before.
    let a = g.P.PlanPages.state c.args.v.now in
    let chain = numbers c.args.chain.now.numbers.items in
    let free = λ (told : IsTrue a.told). free_told a.view chain c.deref.result.now (some_numbers c.args.chain.now.numbers.items c.requires.chain.is.some)
    (ap numbers c.deref.ensures.0 ∙ c.chain_slots-slots.ensures ∙ ap first_slots (c.requires.chain.read told)) in
    does_next _ (does_see looked a (λ view. first_in (slots_with chain 0 view)) (Some c.in-Some.i) (λ told. sym c.in-Some.is ∙ c.free_slot.ensures.slot ∙ free told))
    (does_plan (ap (λ (ps : List PageNo). page_in_slot a.view.shape (numbers ps) (numbers c.args.path.now) c.in-Some.i) c.deref-in-Some.ensures.value)
    (c.page_in_slot.ensures.does looked (λ told. subst (λ (ps : List PageNo). Contains looked (first_page (numbers ps))) (sym c.deref-in-Some.ensures.value) (before told))))

pub returns-in-None-clause-does : goal.returns-in-None-clause-does
returns-in-None-clause-does g c = λ looked before.
    let a = g.P.PlanPages.state c.args.v.now in
    let chain = numbers c.args.chain.now.numbers.items in
    let free = λ (told : IsTrue a.told). free_told a.view chain c.deref.result.now (some_numbers c.args.chain.now.numbers.items c.requires.chain.is.some)
    (ap numbers c.deref.ensures.0 ∙ c.chain_slots-slots.ensures ∙ ap first_slots (c.requires.chain.read told)) in
    does_next _ (does_see looked a (λ view. first_in (slots_with chain 0 view)) None (λ told. sym c.in-None.is ∙ c.free_slot.ensures.slot ∙ free told)) (does_give looked a None)
