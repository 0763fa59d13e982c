use Rattle.std.proofs.Common.{◌≡◌, ℕ, ◌+◌, ◌-◌, ◌/◌, ◌<◌, ◌≤◌, Err, arith, refl, ap, subst}
use Rattle.std.specs.List.{range_with_len}
use Rattle.spec_file.specs.declared.data.Resource.TheVariants as resource
use Rattle.spec_plan.specs.Refusals.{no_room}
use Rattle.spec_words.specs.NetChanges.{extents_of}
use Rattle.spec_words.specs.Words.{unless_held, for_each, refuse}
use Rattle.db_locks.specs.declared.plan_pages.PageStop.TheVariants.{Held}
use Rattle.db_locks.proofs.PlanLaws.{does_stop, does_refuse}
use Rattle.db_locks.proofs.LoopLaws.{leads_none, each_step, each_exit, each_end}
use Rattle.db_alloc.specs.declared.single.AllocStop.TheVariants.{Page, Full}
use Rattle.db_alloc.specs.Results.{alloc_stop}
use Rattle.db_alloc.proofs.Chains.{leads_plan}
use Rattle.db_alloc.proofs.SearchSteps.{extents_first, extents_end}
use Rattle.db_alloc.proofs.SingleSteps.{does_next, unless_free, unless_taken, holder_some, holder_none}
use Rattle.db_alloc.proofs.single.no_page.Goals as goal

all_left : (n : ℕ) → n ≡ n - 0
all_left n = omega arith

pub loop-e-init : goal.loop-e-init
loop-e-init g c = λ looked.
    let a = g.P.PlanPages.state c.args.v.now in
    let each = λ (e : ℕ). unless_held (resource.Extent (record { 0 = e })) in
    leads_plan (ap (λ (n : ℕ). for_each each (range_with_len 0 n)) (all_left (a.view.shape.pages / 8))) (leads_none alloc_stop looked a (for_each each (extents_of a.view.shape)))

pub returns-in-Some : goal.returns-in-Some
returns-in-Some g c = λ looked.
    let a = g.P.PlanPages.state c.args.v.now in
    let each = λ (e : ℕ). unless_held (resource.Extent (record { 0 = e })) in
    let r = resource.Extent (record { 0 = c.loop-e.e }) in
    let n = a.view.shape.pages / 8 in
    let lt = subst (λ (n : ℕ). c.loop-e.e < n / 8) c.requires.pages c.loop-e-test.true in
    let stop = Page (Held r c.in-Some.by) in
    does_stop {meaning = alloc_stop} alloc_stop (λ _. refuse no_room) stop refl
    (each_exit each c.loop-e.e (range_with_len (c.loop-e.e + 1) (n - (c.loop-e.e + 1))) {result = Err stop}
    (leads_plan (ap (for_each each) (extents_first c.loop-e.e n lt)) (c.loop-e.invariant looked))
    (unless_taken looked a r c.in-Some.by.0 stop (holder_some a.view r c.holder.result c.in-Some.by c.holder.ensures c.in-Some.is) refl) refl)

pub loop-e-preserved : goal.loop-e-preserved
loop-e-preserved g c = λ looked.
    let a = g.P.PlanPages.state c.args.v.now in
    let each = λ (e : ℕ). unless_held (resource.Extent (record { 0 = e })) in
    let r = resource.Extent (record { 0 = c.loop-e.e }) in
    let n = a.view.shape.pages / 8 in
    let lt = subst (λ (n : ℕ). c.loop-e.e < n / 8) c.requires.pages c.loop-e-test.true in
    each_step each c.loop-e.e (range_with_len (c.loop-e.e + 1) (n - (c.loop-e.e + 1)))
    (leads_plan (ap (for_each each) (extents_first c.loop-e.e n lt)) (c.loop-e.invariant looked))
    (unless_free looked a r (holder_none a.view r c.holder.result c.holder.ensures c.in_default.not-Some))

pub returns : goal.returns
returns g c = λ looked.
    let a = g.P.PlanPages.state c.args.v.now in
    let each = λ (e : ℕ). unless_held (resource.Extent (record { 0 = e })) in
    let n = a.view.shape.pages / 8 in
    let le = subst (λ (n : ℕ). n / 8 ≤ c.loop-e.e) c.requires.pages c.loop-e-test.false in
    does_next (λ _. refuse no_room) (each_end each (leads_plan (ap (for_each each) (extents_end c.loop-e.e n le)) (c.loop-e.invariant looked)))
    (does_refuse looked a no_room Full refl)
