-- A statement that stops is refused by what its words meet, by the device, or for want of memory.
use Rattle.std.proofs.Common.{◌≡◌, ℕ, List, [], IsTrue, Err, inl, inr, refl, sym, subst, arith}
use Rattle.spec_script.specs.declared.reply.Refusal.{Refusal}
use Rattle.spec_script.specs.declared.reply.Reply.{Reply}
use Rattle.spec_plan.specs.Refusals.{out_of_memory}
use Rattle.spec_words.specs.Views.{Outcome}
use Rattle.spec_words.specs.Views.{Plan as Words}
use Rattle.db_locks.specs.States.{PlanState}
use Rattle.db_locks.specs.Does.{Stop, WasHeld, WasRefused, HasFailed, WasShort, stop_of, MayStop, HasCause, Stays, DoesAs}
use Rattle.db_locks.specs.declared.plan_pages.PageStop.{PageStop}
use Rattle.db_locks.specs.declared.plan_pages.PageStop.TheVariants.{Held, Fault, Bad, NoMemory}
use Rattle.db_alloc.specs.Results.{find_stop, alloc_stop}
use Rattle.db_alloc.specs.declared.find.FindStop.{FindStop}
use Rattle.db_alloc.specs.declared.find.FindStop.TheVariants.{Page, NoTable}
use Rattle.db_alloc.specs.declared.single.AllocStop.{AllocStop}
use Rattle.db_alloc.specs.declared.single.AllocStop.TheVariants as alloc
use Rattle.db_table.specs.Creates.{create_stop}
use Rattle.db_table.specs.declared.place.CreateStop.{CreateStop}
use Rattle.db_table.specs.declared.place.CreateStop.TheVariants as create
use Rattle.db_heap.specs.InsertPlans.{insert_stop}
use Rattle.db_heap.specs.declared.insert.InsertStop.{InsertStop}
use Rattle.db_heap.specs.declared.insert.InsertStop.TheVariants.{Find, NoRoom}
use Rattle.db_plan.specs.declared.planned.PlanAt.{PlanAt}
use Rattle.db_plan.specs.Refusals.{refusal_of, Tells}
use Rattle.db_plan.specs.Plans.{MayRefuse, Stopped, Failed, Short, HasCauses, IsPlannedAs}

-- a refusal by a statement's words has another number than those of a fault and of what is held
abbrev pub IsOther : Stop → Type 0
IsOther (WasRefused refusal) = (refusal.number ≡ 823 → ⊥) × (refusal.number ≡ 1222 → ⊥)
IsOther other = Unit {0}

pub page_other : (stop : PageStop) → IsOther (stop_of stop)
page_other (Held r t) = tt
page_other (Fault p) = tt
page_other (Bad p) = (λ e. omega (arith, e), λ e. omega (arith, e))
page_other NoMemory = tt

pub find_other : (name : List ℕ) (stop : FindStop) → IsOther (find_stop name stop)
find_other name (Page stop) = page_other stop
find_other name NoTable = (λ e. omega (arith, e), λ e. omega (arith, e))

pub insert_other : (name : List ℕ) (stop : InsertStop) → IsOther (insert_stop name stop)
insert_other name (Find stop) = find_other name stop
insert_other name NoRoom = (λ e. omega (arith, e), λ e. omega (arith, e))

alloc_other : (stop : AllocStop) → IsOther (alloc_stop stop)
alloc_other (alloc.Page stop) = page_other stop
alloc_other alloc.Full = (λ e. omega (arith, e), λ e. omega (arith, e))

pub create_other : (name : List ℕ) (stop : CreateStop) → IsOther (create_stop name stop)
create_other name (create.Alloc stop) = alloc_other stop
create_other name create.SameName = (λ e. omega (arith, e), λ e. omega (arith, e))
create_other name create.TooMany = (λ e. omega (arith, e), λ e. omega (arith, e))

short_causes : (old new : PlanState) → HasCauses old new out_of_memory
short_causes old new = record { fault = λ e. absurd (omega (arith, e)); held = λ e. absurd (omega (arith, e)) }

causes : (old new : PlanState) (stop : Stop) → IsOther stop → HasCause old new stop → HasCauses old new (refusal_of stop)
causes old new (WasHeld r t) other cause = record { fault = λ e. absurd (omega (arith, e)); held = λ e. (r, t, refl, cause) }
causes old new (WasRefused refusal) other cause = record { fault = λ e. absurd (other.0 e); held = λ e. absurd (other.1 e) }
causes old new (HasFailed p) other cause = record { fault = λ e. cause; held = λ e. absurd (omega (arith, e)) }
causes old new WasShort other cause = short_causes old new

may_refuse : (at : PlanAt) (outcome : Outcome Reply) (stop : Stop) → MayStop [] outcome stop → MayRefuse at outcome (refusal_of stop)
may_refuse at outcome (WasHeld r t) may = Stopped may
may_refuse at outcome (WasRefused refusal) may = Stopped may
may_refuse at outcome (HasFailed p) may = Failed p may refl
may_refuse at outcome WasShort may = Short refl

pub refused : (at : PlanAt) (old new : PlanState) (words : Words Reply) (stop : Stop) (refusal : Refusal) → IsOther stop → (IsTrue old.told → MayStop [] (words old.view) stop) → Stays old new →
    HasCause old new stop → Tells stop refusal → IsPlannedAs at old new words (Err refusal)
refused at old new words stop refusal other may stays cause (inl is) =
    subst (λ r. IsPlannedAs at old new words (Err r)) (sym is) (record { exact = λ told. may_refuse at (words old.view) stop (may told); stays = stays; causes = causes old new stop other cause })
refused at old new words stop refusal other may stays cause (inr short) =
    subst (λ r. IsPlannedAs at old new words (Err r)) (sym short) (record { exact = λ told. Short refl; stays = stays; causes = short_causes old new })

-- the same of a call that did as the words say
pub refused_by : {E : Type 0} (meaning : E → Stop) (at : PlanAt) (old new : PlanState) (words : Words Reply) (e : E) (refusal : Refusal) → IsOther (meaning e) →
    DoesAs meaning [] old new words (Err e) → Tells (meaning e) refusal → IsPlannedAs at old new words (Err refusal)
refused_by meaning at old new words e refusal other does tells = refused at old new words (meaning e) refusal other does.exact does.stays does.cause tells
