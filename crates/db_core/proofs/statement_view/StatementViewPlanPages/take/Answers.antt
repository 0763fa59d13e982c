use Rattle.std.proofs.Common.{◌≡◌, true, false, List, arith, refl, ap, sym, subst, ◌∙◌}
use Rattle.std.specs.Prelude.{if◌then◌else◌, OnOk}
use Rattle.std.specs.Option.{option_map}
use Rattle.std.proofs.Math.Logic.{∥∥₁_map}
use Rattle.spec_file.specs.declared.data.Resource.{Resource}
use Rattle.spec_file.specs.declared.data.Tran.{Tran}
use Rattle.spec_words.specs.Takes.{is_among, with_resource}
use Rattle.spec_run.specs.Begun.{shape_of}
use Rattle.db_locks.proofs.Differing.{taken_or_not}
use Rattle.db_locks.proofs.PlanLaws.{stays_same}
use Rattle.db_locks.proofs.ViewLaws.{take_free, take_held, taken_already, taken_new}
use Rattle.db_core.specs.Store.{run_is}
use Rattle.db_core.specs.SeenPages.{began_at}
use Rattle.db_core.specs.StatementViews.{shown_of, state_of}
use Rattle.db_core.proofs.NewTakes.{newly_or_not}
use Rattle.db_core.proofs.StatementSteps.{free_or_not}
use Rattle.db_core.proofs.statement_view.StatementViewPlanPages.take.Goals as goal

pub returns-in-Some-clause-take : goal.returns-in-Some-clause-take
returns-in-Some-clause-take c =
    take_held (state_of c.args.self.now) c.args.r c.in-Some.by (sym c.holder.ensures ∙ ap (option_map (λ (t : Tran). t.0)) c.in-Some.is)

pub returns-then-contains-clause-take : goal.returns-then-contains-clause-take
returns-then-contains-clause-take c =
    let a = state_of c.args.self.now in
    let there : is_among a.view.taken c.args.r ≡ true = rw c.deref.ensures.value at (sym c.contains.ensures ∙ c.if-contains.true) in
    take_free a a c.args.r (sym c.holder.ensures ∙ ap (option_map (λ (t : Tran). t.0)) c.in_default.is) (taken_already c.args.r a.view there) (stays_same a)

pub returns-in-Ok-clause-take : goal.returns-in-Ok-clause-take
returns-in-Ok-clause-take c =
    let a = state_of c.args.self.now in
    let lacks : is_among a.view.taken c.args.r ≡ false = rw c.deref.ensures.value at (sym c.contains.ensures ∙ c.if-contains.false) in
    take_free a _ c.args.r (sym c.holder.ensures ∙ ap (option_map (λ (t : Tran). t.0)) c.in_default.is)
    (ap (λ (taken : List Resource). record a.view { taken = taken }) c.in-Ok.ensures.taken ∙ taken_new c.args.r a.view lacks)
    (record { told = refl; shape = refl; start = refl; other = refl; own = refl; faults = omega arith })

pub invariant_of-self-clause-only : goal.invariant_of-self-clause-only
invariant_of-self-clause-only c =
    let old = c.args.self.now in
    ∥∥₁_map old.only (taken_or_not c.add_taken.result (shape_of (run_is old.state.now)) c.args.r old.taken.items c.add_taken.new.taken.items
    old.state.now.frames (shown_of old) c.add_taken.ensures.taken c.add_taken.ensures.same_taken)

pub invariant_of-self-clause-free : goal.invariant_of-self-clause-free
invariant_of-self-clause-free c =
    let old = c.args.self.now in
    ∥∥₁_map old.free (free_or_not c.add_taken.result (began_at old.state.now old.at) c.args.r old.taken.items c.add_taken.new.taken.items
    c.add_taken.ensures.taken c.add_taken.ensures.same_taken (sym c.holder.ensures ∙ ap (option_map (λ (t : Tran). t.0)) c.in_default.is))

pub invariant_of-self-clause-newly_is : goal.invariant_of-self-clause-newly_is
invariant_of-self-clause-newly_is c =
    let old = c.args.self.now in
    newly_or_not c.add_taken.result (began_at old.state.now old.at).own c.args.r old.taken.items c.add_taken.new.taken.items old.newly.items c.add_taken.new.newly.items
    c.add_taken.ensures.taken
    (subst (λ held. OnOk c.add_taken.result (c.add_taken.new.newly.items ≡ (if held then old.newly.items else with_resource c.args.r old.newly.items))) c.owns-held.ensures c.add_taken.ensures.newly)
    c.add_taken.ensures.same_taken c.add_taken.ensures.same_newly old.newly_is
