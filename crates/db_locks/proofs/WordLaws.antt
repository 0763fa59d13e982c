-- What a call that looked, took or put did, by the words of plans that look, reach, take and write.
use Rattle.std.proofs.Common.{◌≡◌, ℕ, IsTrue, List, [], ◌∷◌, ◌++◌, Contains, Option, Some, None, Result, Ok, Err, inl, inr, refl, sym, ap, ◌∙◌, subst, arith}
use Rattle.std.specs.Prelude.{slice_set}
use Rattle.std.proofs.lemmas.List.Elements.{Contains-append_left, Contains-append_right, Contains-append_cases, Contains-push_cases}
use Rattle.spec_file.specs.declared.data.Resource.{Resource}
use Rattle.spec_file.specs.Image.{Image, page}
use Rattle.spec_log.specs.declared.item.Cell.{Cell}
use Rattle.spec_log.specs.Cells as cells
use Rattle.spec_plan.specs.Refusals.{held_by}
use Rattle.spec_words.specs.Views.{View, Gives, Stops, Outcome, Plan}
use Rattle.spec_words.specs.Words.{ended, gone_on, by_holder, ◌then◌, give, look, reach, take, unless_held, write, written, with_taken}
use Rattle.db_locks.specs.Guards.{carried}
use Rattle.db_locks.specs.States.{PlanState}
use Rattle.db_locks.specs.Does.{Stop, WasHeld, WasRefused, HasFailed, WasShort, MayStop, MayAnswer, DoesAs, carry}

-- ---- the same by another plan

stop_as : {A B : Type 0} (looked : List ℕ) (o : Outcome A) (o' : Outcome B) (stop : Stop) → ((refusal : _) → o.ending ≡ Stops refusal → o'.ending ≡ Stops refusal)
    → ((p : ℕ) → Contains (looked ++ o.reached) p → Contains (looked ++ o'.reached) p) → MayStop looked o stop → MayStop looked o' stop
stop_as looked o o' (WasHeld r t) ends within h = ends (held_by r t) h
stop_as looked o o' (WasRefused refusal) ends within h = ends refusal h
stop_as looked o o' (HasFailed p) ends within h = within p h
stop_as looked o o' WasShort ends within h = tt

-- another plan that ends alike and reaches no less
pub does_as : {A E : Type 0} {meaning : E → Stop} {looked : List ℕ} {a b : PlanState} {plan : Plan A} (other : Plan A) {result : Result A E}
    → (IsTrue a.told → (plan a.view).ending ≡ (other a.view).ending)
    → (IsTrue a.told → (p : ℕ) → Contains (looked ++ (plan a.view).reached) p → Contains (looked ++ (other a.view).reached) p)
    → DoesAs meaning looked a b plan result → DoesAs meaning looked a b other result
does_as {A} {E} {meaning} {looked} {a} {b} {plan} other {result} same within d = record { exact = λ told. by_result result (same told) (within told) (d.exact told); stays = d.stays; cause = d.cause }
  where
    by_result : (result : Result A E) → (plan a.view).ending ≡ (other a.view).ending
        → ((p : ℕ) → Contains (looked ++ (plan a.view).reached) p → Contains (looked ++ (other a.view).reached) p)
        → MayAnswer meaning looked (plan a.view) b.view result → MayAnswer meaning looked (other a.view) b.view result
    by_result (Ok x) same within h = sym same ∙ h
    by_result (Err e) same within h = stop_as looked (plan a.view) (other a.view) (meaning e) (λ refusal end. sym same ∙ end) within h

-- what was reached already is reached
again : (looked more : List ℕ) (p q : ℕ) → Contains looked p → Contains (looked ++ (p ∷ more)) q → Contains (looked ++ more) q
again looked more p q before h = elim (Contains-append_cases looked (p ∷ more) q h) [
  | inl early ↦ Contains-append_left looked more q early
  | inr late ↦ elim (Contains-append_cases (p ∷ []) more q late) [
    | inl one ↦ Contains-append_left looked more q (subst (λ (k : ℕ). Contains looked k) (only p q one) before)
    | inr rest ↦ Contains-append_right looked more q rest
  ]
]
  where
    only : (p q : ℕ) → Contains (p ∷ []) q → p ≡ q
    only p q h = elim (Contains-push_cases [] p q h) [ inl none ↦ absurd (omega (arith, none.1)) | inr e ↦ e ]

-- ---- looking

-- a page of maps is reached by a look under a resource that nobody else holds
pub does_reach : {E : Type 0} {meaning : E → Stop} {looked : List ℕ} {a b : PlanState} (r : Resource) (p : ℕ) {result : Result (List ℕ) E} → a.view.other r ≡ None
    → DoesAs meaning looked a b (look r p) result → DoesAs meaning looked a b (reach p) result
unfolding look reach
does_reach {a = a} r p free d = does_as (reach p) (λ told. rw free refl) (λ told q h. rw free at h) d

-- a page that was reached already is looked at once more, and then comes what reaches nothing
looked_again : {A : Type 0} (looked : List ℕ) (r : Resource) (p : ℕ) (next : List ℕ → Plan A) (other : Outcome A) (view : View) (o : Option ℕ) → Contains looked p
    → ((t : ℕ) → o ≡ Some t → other ≡ ended [] (Stops (held_by r t)))
    → (o ≡ None → ((next (page view.now p) view).ending ≡ other.ending) × ((next (page view.now p) view).reached ≡ other.reached))
    → let first : Outcome (List ℕ) = by_holder r o (ended (p ∷ []) (Gives (page view.now p) view)) in
    ((gone_on first.reached first.ending next).ending ≡ other.ending)
    × ((q : ℕ) → Contains (looked ++ (gone_on first.reached first.ending next).reached) q → Contains (looked ++ other.reached) q)
looked_again looked r p next other view None before held free =
    let (ends, reaches) = free refl in
    (ends, λ q h. subst (λ (ps : List ℕ). Contains (looked ++ ps) q) reaches (again looked (next (page view.now p) view).reached p q before h))
looked_again looked r p next other view (Some t) before held free =
    let e = held t refl in
    (ap (λ (o : Outcome _). o.ending) (sym e), λ q h. subst (λ (o : Outcome _). Contains (looked ++ o.reached) q) (sym e) h)

abbrev free_or : Resource → View → Option ℕ → Outcome (Unit {0})
free_or r view o = by_holder r o (ended [] (Gives tt view))

free_both : (r : Resource) (view : View) (o : Option ℕ) → o ≡ None
    → ((give tt view).ending ≡ (free_or r view o).ending) × ((give {A = Unit {0}} tt view).reached ≡ (free_or r view o).reached)
unfolding give
free_both r view o e = rw e (refl, refl)

-- such a look tells whether another transaction holds the resource
pub does_unless_held : {E : Type 0} {meaning : E → Stop} {looked : List ℕ} {a b : PlanState} (r : Resource) (p : ℕ) {result : Result (Unit {0}) E} → (IsTrue a.told → Contains looked p)
    → DoesAs meaning looked a b (look r p then (λ _. give tt)) result → DoesAs meaning looked a b (unless_held r) result
unfolding ◌then◌ look give unless_held
does_unless_held {looked = looked} {a} r p before d = does_as (unless_held r)
    (λ told. (looked_again looked r p (λ _. give tt) (free_or r a.view (a.view.other r)) a.view (a.view.other r) (before told) (λ t e. ap (free_or r a.view) e) (λ e. free_both r a.view (a.view.other r) e)).0)
    (λ told. (looked_again looked r p (λ _. give tt) (free_or r a.view (a.view.other r)) a.view (a.view.other r) (before told) (λ t e. ap (free_or r a.view) e) (λ e. free_both r a.view (a.view.other r) e)).1)
    d

-- ---- writing

-- bytes are put into a cell
unfoldable pub put_cell : Cell → List ℕ → Plan (Unit {0})
put_cell cell bytes view = ended [] (Gives tt (written cell bytes view))

abbrev taken_or : Resource → View → Option ℕ → Outcome (Unit {0})
taken_or r view o = by_holder r o (ended [] (Gives tt (with_taken r view)))

abbrev write_or : Resource → Cell → List ℕ → View → Option ℕ → Outcome (Unit {0})
write_or r cell bytes view o = by_holder r o (ended [] (Gives tt (written cell bytes (with_taken r view))))

taken_then : (r : Resource) (cell : Cell) (bytes : List ℕ) (view : View) (o : Option ℕ)
    → gone_on (taken_or r view o).reached (taken_or r view o).ending (λ _. put_cell cell bytes) ≡ write_or r cell bytes view o
unfolding put_cell
taken_then r cell bytes view None = refl
taken_then r cell bytes view (Some t) = refl

-- whoever takes the resource and puts the bytes writes
pub does_write : {E : Type 0} {meaning : E → Stop} {looked : List ℕ} {a b : PlanState} (r : Resource) (cell : Cell) (bytes : List ℕ) {result : Result (Unit {0}) E}
    → DoesAs meaning looked a b (take r then (λ _. put_cell cell bytes)) result → DoesAs meaning looked a b (write r cell bytes) result
unfolding ◌then◌ take write
does_write {looked = looked} {a} r cell bytes d = does_as (write r cell bytes)
    (λ told. ap (λ (o : Outcome (Unit {0})). o.ending) (taken_then r cell bytes a.view (a.view.other r)))
    (λ told p h. subst (λ (o : Outcome (Unit {0})). Contains (looked ++ o.reached) p) (taken_then r cell bytes a.view (a.view.other r)) h) d

-- and so does who looks once more before
pub does_write_after_look : {E : Type 0} {meaning : E → Stop} {looked : List ℕ} {a b : PlanState} (r : Resource) (p : ℕ) (cell : Cell) (bytes : List ℕ) {result : Result (Unit {0}) E}
    → (IsTrue a.told → Contains looked p) → DoesAs meaning looked a b (look r p then (λ _. write r cell bytes)) result → DoesAs meaning looked a b (write r cell bytes) result
unfolding ◌then◌ look write
does_write_after_look {looked = looked} {a} r p cell bytes before d = does_as (write r cell bytes)
    (λ told. (looked_again looked r p (λ _. write r cell bytes) (write_or r cell bytes a.view (a.view.other r)) a.view (a.view.other r) (before told) (λ t e. ap (write_or r cell bytes a.view) e) (λ e. (refl, refl))).0)
    (λ told. (looked_again looked r p (λ _. write r cell bytes) (write_or r cell bytes a.view (a.view.other r)) a.view (a.view.other r) (before told) (λ t e. ap (write_or r cell bytes a.view) e) (λ e. (refl, refl))).1)
    d

-- a page that was reached already is put, which changes the bytes of one cell
pub does_put : {E : Type 0} {meaning : E → Stop} {looked : List ℕ} {a b : PlanState} (p : ℕ) (before after : List ℕ) (cell : Cell) (bytes : List ℕ) {result : Result (Unit {0}) E}
    → (IsTrue a.told → Contains looked p) → (IsTrue a.told → slice_set a.view.now p (carried before after (page a.view.now p)) ≡ cells.put a.view.now cell bytes)
    → DoesAs meaning looked a b (carry p before after) result → DoesAs meaning looked a b (put_cell cell bytes) result
unfolding carry put_cell
does_put {looked = looked} {a} p before after cell bytes reached same d = does_as (put_cell cell bytes)
    (λ told. ap (λ (image : Image). Gives tt (record a.view { now = image })) (same told))
    (λ told q h. again looked [] p q (reached told) h) d
