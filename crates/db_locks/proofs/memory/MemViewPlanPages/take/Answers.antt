use Rattle.std.proofs.Common.{◌≡◌, true, false, List, arith, refl, ap, sym, ◌∙◌}
use Rattle.std.specs.Option.{option_map}
use Rattle.std.proofs.Math.Logic.{∥∥₁_map}
use Rattle.spec_file.specs.declared.data.Resource.{Resource}
use Rattle.spec_file.specs.declared.data.Tran.{Tran}
use Rattle.spec_words.specs.Takes.{is_among}
use Rattle.db_locks.specs.Memory.{state_of}
use Rattle.db_locks.specs.MemImages.{shape_of, image_of}
use Rattle.db_locks.proofs.Differing.{taken_or_not, ordered_or_not}
use Rattle.db_locks.proofs.PlanLaws.{stays_same}
use Rattle.db_locks.proofs.ViewLaws.{take_free, take_held, taken_already, taken_new}
use Rattle.db_locks.proofs.memory.MemViewPlanPages.take.Goals as goal

pub returns-in-Some-clause-take : goal.returns-in-Some-clause-take
returns-in-Some-clause-take c = take_held (state_of c.args.self.now) c.args.r c.in-Some.by (ap (option_map (λ (t : Tran). t.0)) (sym c.holder.ensures ∙ c.in-Some.is))

pub returns-then-contains-clause-take : goal.returns-then-contains-clause-take
returns-then-contains-clause-take c =
    let a = state_of c.args.self.now in
    let there : is_among a.view.taken c.args.r ≡ true = rw c.deref.ensures.value at (sym c.contains.ensures ∙ c.if-contains.true) in
    take_free a a c.args.r (ap (option_map (λ (t : Tran). t.0)) (sym c.holder.ensures ∙ c.in_default.is)) (taken_already c.args.r a.view there) (stays_same a)

pub returns-in-Ok-clause-take : goal.returns-in-Ok-clause-take
returns-in-Ok-clause-take c =
    let a = state_of c.args.self.now in
    let lacks : is_among a.view.taken c.args.r ≡ false = rw c.deref.ensures.value at (sym c.contains.ensures ∙ c.if-contains.false) in
    take_free a _ c.args.r (ap (option_map (λ (t : Tran). t.0)) (sym c.holder.ensures ∙ c.in_default.is))
    (ap (λ (taken : List Resource). record a.view { taken = taken }) c.in-Ok.ensures.taken ∙ taken_new c.args.r a.view lacks)
    (record { told = refl; shape = refl; start = refl; other = refl; own = refl; faults = omega arith })

pub invariant_of-self-clause-only : goal.invariant_of-self-clause-only
invariant_of-self-clause-only c =
    let old = c.args.self.now in
    ∥∥₁_map old.only (taken_or_not c.add_taken.result (shape_of old.geometry old.version old.pages.items) c.args.r old.taken.items c.add_taken.new.taken.items
    (image_of old.first.items) (image_of old.pages.items) c.add_taken.ensures.taken c.add_taken.ensures.same_taken)

pub invariant_of-self-clause-ordered : goal.invariant_of-self-clause-ordered
invariant_of-self-clause-ordered c =
    let old = c.args.self.now in
    ordered_or_not c.add_taken.result c.args.r old.taken.items c.add_taken.new.taken.items old.in_order.items c.add_taken.new.in_order.items
    c.add_taken.ensures.taken c.add_taken.ensures.ordered c.add_taken.ensures.same_taken c.add_taken.ensures.same_order old.ordered
