use Rattle.std.proofs.Common.{◌||◌, ◌==◌, List, IsTrue, Contains, sym, ap, ◌∙◌, subst}
use Rattle.std.specs.List.{list_any}
use Rattle.spec_file.specs.declared.data.PageNo.{PageNo}
use Rattle.spec_plan.specs.Reading.{first_page}
use Rattle.spec_alloc.specs.Freeing.{is_shared_page, page_freed}
use Rattle.db_locks.proofs.PlanLaws.{does_see}
use Rattle.db_alloc.specs.Frees.{single_freed}
use Rattle.db_alloc.specs.Marks.{first_slots, is_in_slot}
use Rattle.db_alloc.specs.Tables.{numbers}
use Rattle.db_alloc.proofs.DropSteps.{shared_as}
use Rattle.db_alloc.proofs.SingleSteps.{does_next}
use Rattle.db_alloc.proofs.SlotSteps.{first_contained, some_numbers}
use Rattle.db_alloc.proofs.Steps.{does_plan}
use Rattle.db_alloc.proofs.give_back.free_owned.Goals as goal

pub returns-then-is_shared : goal.returns-then-is_shared
returns-then-is_shared g c = λ looked before.
    let a = g.P.PlanPages.state c.args.v.now in
    let chain = numbers c.args.chain.now.numbers.items in
    let p = c.args.p.0 in
    let some = some_numbers c.args.chain.now.numbers.items c.requires.some in
    let shared = λ (told : IsTrue a.told). shared_as (numbers c.deref.result.now) chain p a.view c.is_shared.result some
    (ap numbers c.deref.ensures.0 ∙ c.chain_slots-slots.ensures ∙ ap first_slots (c.requires.chain told))
    (c.is_shared.ensures ∙ ap (λ (ps : List PageNo). is_in_slot (numbers c.deref.result.now) p || list_any (λ q. q == p) (numbers ps)) c.deref-2.ensures.value) in
    does_next _ (does_see looked a (is_shared_page chain p) c.is_shared.result shared)
    (does_plan (ap (page_freed a.view.shape chain p) (sym c.if-is_shared.true))
    (does_plan (ap (λ (ps : List PageNo). single_freed a.view.shape (numbers ps) p) c.deref-then-is_shared.ensures.value)
    (c.free_single.ensures looked (λ told. subst (λ (ps : List PageNo). Contains looked (first_page (numbers ps))) (sym c.deref-then-is_shared.ensures.value) (before told (first_page chain) (first_contained chain some))))))

pub returns : goal.returns
returns g c = λ looked before.
    let a = g.P.PlanPages.state c.args.v.now in
    let chain = numbers c.args.chain.now.numbers.items in
    let p = c.args.p.0 in
    let some = some_numbers c.args.chain.now.numbers.items c.requires.some in
    let shared = λ (told : IsTrue a.told). shared_as (numbers c.deref.result.now) chain p a.view c.is_shared.result some
    (ap numbers c.deref.ensures.0 ∙ c.chain_slots-slots.ensures ∙ ap first_slots (c.requires.chain told))
    (c.is_shared.ensures ∙ ap (λ (ps : List PageNo). is_in_slot (numbers c.deref.result.now) p || list_any (λ q. q == p) (numbers ps)) c.deref-2.ensures.value) in
    does_next _ (does_see looked a (is_shared_page chain p) c.is_shared.result shared)
    (does_plan (ap (page_freed a.view.shape chain p) (sym c.if-is_shared.false)) (c.free_marked.ensures looked before))
