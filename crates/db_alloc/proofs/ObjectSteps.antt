-- A page is taken for an object, and becomes a page of its chain.
use Rattle.std.proofs.Common.{◌≡◌, refl, ℕ, Bool, true, false, not, IsTrue, List, [], ◌∷◌, Contains, Option, Some, None, Result, Ok, Err, sym, ap, ◌∙◌, subst}
use Rattle.std.specs.Prelude.{◌==◌, IsErrAnd}
use Rattle.std.specs.List.{list_any}
use Rattle.std.proofs.lemmas.Bool.{false≢true}
use Rattle.std.proofs.lemmas.Result.{err_from_is_err_and}
use Rattle.std.proofs.lemmas.List.Elements.{Contains-append_left, Contains-push}
use Rattle.spec_file.specs.declared.data.PageNo.{PageNo}
use Rattle.spec_file.specs.declared.data.Resource.{Resource}
use Rattle.spec_file.specs.declared.data.Resource.TheVariants as resource
use Rattle.spec_file.specs.Image.{page}
use Rattle.spec_words.specs.Views.{View, End, Gives, Stops, Plan}
use Rattle.spec_words.specs.Words.{ended, gone_on, by_holder, ◌then◌, give, look}
use Rattle.spec_alloc.specs.Chains.{page_taken}
use Rattle.db_locks.specs.declared.plan_pages.PageStop.{PageStop}
use Rattle.db_locks.specs.declared.plan_pages.PageStop.TheVariants.{Bad}
use Rattle.db_locks.specs.States.{PlanState}
use Rattle.db_locks.specs.Does.{Stop, Does, DoesAs, DoesAfter, stop_of}
use Rattle.db_locks.proofs.PlanLaws.{does_then, does_stop, does_give, does_good, does_bad}
use Rattle.db_alloc.specs.declared.single.AllocStop.{AllocStop}
use Rattle.db_alloc.specs.declared.single.AllocStop.TheVariants.{Page}
use Rattle.db_alloc.specs.Results.{value_as, alloc_stop}
use Rattle.db_alloc.proofs.SingleSteps.{does_next}

-- ---- taking a page

abbrev among : List ℕ → ℕ → Bool
among standing p = list_any (λ q. q == p) standing

pub taken_good : {a b : PlanState} (standing : List ℕ) (p : ℕ) → Does a b (look (resource.Page (record { 0 = p })) p) (Ok (page a.view.now p)) → list_any (λ q. q == p) standing ≡ false
    → Does a b (page_taken standing p) (Ok p)
taken_good {b = b} standing p d free = does_then _ d (does_then _ (does_good [] b (not (among standing p)) p (λ told. ap not free)) (does_give [] b p))

pub taken_bad : {a b : PlanState} (standing : List ℕ) (p : PageNo) → Does a b (look (resource.Page p) p.0) (Ok (page a.view.now p.0)) → list_any (λ q. q == p.0) standing ≡ true
    → Does a b (page_taken standing p.0) (Err (Bad p))
taken_bad {b = b} standing p d there =
    does_then _ d (does_stop {meaning = stop_of} stop_of _ (Bad p) refl (does_bad [] b (not (among standing p.0)) p.0 (Bad p) refl (λ told. ap not there)))

-- a look that gave a page reached it
abbrev gives : {A : Type 0} → End A → Bool
gives (Gives x w) = true
gives (Stops refusal) = false

look_by : (r : Resource) (p : ℕ) (view : View) (x : List ℕ) (w : View) (o : Option ℕ) → (by_holder r o (ended (p ∷ []) (Gives (page view.now p) view))).ending ≡ Gives x w
    → Contains (by_holder r o (ended (p ∷ []) (Gives (page view.now p) view))).reached p
look_by r p view x w None e = Contains-push [] p
look_by r p view x w (Some t) e = absurd (false≢true (ap gives e))

look_gave : (r : Resource) (p : ℕ) (view : View) (x : List ℕ) (w : View) → (look r p view).ending ≡ Gives x w → Contains (look r p view).reached p
unfolding look
look_gave r p view x w e = look_by r p view x w (view.other r) e

first_reached : {A B : Type 0} (reached : List ℕ) (ending : End A) (next : A → Plan B) (p : ℕ) → Contains reached p → Contains (gone_on reached ending next).reached p
first_reached reached (Gives x w) next p h = Contains-append_left reached _ p h
first_reached reached (Stops refusal) next p h = h

pub taken_reached : {a b : PlanState} (standing : List ℕ) (p : ℕ) → Does a b (look (resource.Page (record { 0 = p })) p) (Ok (page a.view.now p)) → IsTrue a.told → Contains (page_taken standing p a.view).reached p
unfolding ◌then◌
taken_reached {a} {b} standing p d told =
    let r = resource.Page (record { 0 = p }) in
    first_reached (look r p a.view).reached (look r p a.view).ending _ p (look_gave r p a.view (page a.view.now p) b.view (d.exact told))

-- ---- what is given behind a step

pub then_given : {A B E : Type 0} {meaning : E → Stop} {looked : List ℕ} {a b : PlanState} {plan : Plan A} (y : B) (r : Result A E) → DoesAs meaning looked a b plan r
    → DoesAs meaning looked a b (plan then (λ _. give y)) (value_as (λ _. y) r)
then_given {looked = looked} {b = b} y (Ok x) d = does_next _ d (does_give looked b y)
then_given {meaning = meaning} y (Err e) d = does_stop meaning (λ _. give y) e refl d

-- ---- a stop of a page is one of allocation

pub page_stopped : {A B : Type 0} {looked : List ℕ} {a b : PlanState} {plan : Plan B} (f : A → B) {stop : PageStop} (r : Result A AllocStop) → DoesAfter looked a b plan (Err stop) → IsErrAnd r (λ s. s ≡ Page stop)
    → DoesAs alloc_stop looked a b plan (value_as f r)
page_stopped {A} {B} {looked} {a} {b} {plan} f {stop} r d h =
    let e = err_from_is_err_and r h in
    subst (λ (q : Result A AllocStop). DoesAs alloc_stop looked a b plan (value_as f q)) (sym (e.1 ∙ ap Err e.2)) (record { exact = d.exact; stays = d.stays; cause = d.cause })
