-- What a call on a view did, by a plan in words.
use Rattle.std.specs.Prelude.{◌≡◌, ◌≤◌, ℕ, IsTrue, List, [], ◌∷◌, ◌++◌, Contains, Result, Ok, Err, IfErr, Some, slice_set}
use Rattle.spec_file.specs.declared.data.Resource.{Resource}
use Rattle.spec_file.specs.Image.{page}
use Rattle.spec_script.specs.declared.reply.Refusal.{Refusal}
use Rattle.spec_plan.specs.Refusals.{held_by, bad_page}
use Rattle.pg_base.specs.Faults.{Rose}
use Rattle.spec_words.specs.Views.{View, Gives, Stops, Outcome, Plan}
use Rattle.spec_words.specs.Words.{ended}
use Rattle.db_locks.specs.declared.plan_pages.PageStop.{PageStop}
use Rattle.db_locks.specs.declared.plan_pages.PageStop.TheVariants.{Held, Fault, Bad, NoMemory}
use Rattle.db_locks.specs.Guards.{carried}
use Rattle.db_locks.specs.States.{PlanState}

-- why a call gives nothing: 1222, or another refusal; the device failed at a page; memory is short
pub data Stop : Type 0 where
  WasHeld : Resource → ℕ → Stop
  WasRefused : Refusal → Stop
  HasFailed : ℕ → Stop
  WasShort : Stop

abbrev pub stop_of : PageStop → Stop
stop_of (Held r t) = WasHeld r t.0
stop_of (Fault p) = HasFailed p.0
stop_of (Bad p) = WasRefused (bad_page p.0)
stop_of NoMemory = WasShort

-- the answer of a call that has no value of its own, with one that was filled in
abbrev pub filled : {A B E : Type 0} → A → Result B E → Result A E
filled x (Ok _) = Ok x
filled x (Err e) = Err e

-- a call may stop so where a plan has this outcome, and the pages `looked` were reached before it: with the plan's refusal;
-- with a failure of the device at a page reached by then; for want of memory anywhere
abbrev pub MayStop : {A : Type 0} → List ℕ → Outcome A → Stop → Type 0
MayStop looked outcome (WasHeld r t) = outcome.ending ≡ Stops (held_by r t)
MayStop looked outcome (WasRefused refusal) = outcome.ending ≡ Stops refusal
MayStop looked outcome (HasFailed p) = Contains (looked ++ outcome.reached) p
MayStop looked outcome WasShort = Unit {0}

-- it gives the plan's value, and leaves the plan's view
abbrev pub MayAnswer : {A E : Type 0} → (E → Stop) → List ℕ → Outcome A → View → Result A E → Type 0
MayAnswer meaning looked outcome view (Ok x) = outcome.ending ≡ Gives x view
MayAnswer meaning looked outcome view (Err e) = MayStop looked outcome (meaning e)

-- another transaction held what is named; the device counted a failure
abbrev pub HasCause : PlanState → PlanState → Stop → Type 0
HasCause old new (WasHeld r t) = old.view.other r ≡ Some t
HasCause old new (WasRefused refusal) = Unit {0}
HasCause old new (HasFailed p) = Rose old.faults new.faults
HasCause old new WasShort = Unit {0}

-- what no call changes
pub record Stays (old new : PlanState) : Type 0 where
  pub told : new.told ≡ old.told
  pub shape : new.view.shape ≡ old.view.shape
  pub start : new.view.start ≡ old.view.start
  pub other : new.view.other ≡ old.view.other
  pub own : new.view.own ≡ old.view.own
  pub faults : old.faults ≤ new.faults

-- a call did what the plan says, after the pages `looked` were reached; `meaning` reads its errors
pub record DoesAs {A E : Type 0} (meaning : E → Stop) (looked : List ℕ) (old new : PlanState) (plan : Plan A) (result : Result A E) : Type 0 where
  pub exact : IsTrue old.told → MayAnswer meaning looked (plan old.view) new.view result
  pub stays : Stays old new
  pub cause : IfErr result (λ e. HasCause old new (meaning e))

-- the same, of a call that stops as a view does
abbrev pub DoesAfter : {A : Type 0} → List ℕ → PlanState → PlanState → Plan A → Result A PageStop → Type 0
DoesAfter looked old new plan result = DoesAs stop_of looked old new plan result

abbrev pub Does : {A : Type 0} → PlanState → PlanState → Plan A → Result A PageStop → Type 0
Does old new plan result = DoesAfter [] old new plan result

-- a page is put in place of one that was shown: the view has the differences of the two
unfoldable pub carry : ℕ → List ℕ → List ℕ → Plan (Unit {0})
carry p before after view =
    ended (p ∷ []) (Gives tt (record view { now = slice_set view.now p (carried before after (page view.now p)) }))
