-- The first page with room is looked for.
use Rattle.std.proofs.Common.{◌≡◌, refl, ℕ, ◌+◌, ◌<◌, ◌≤◌, Bool, true, false, IsTrue, List, ◌∷◌, Result, Ok, Err, All, length, drop, get_or, sym, ap, ◌∙◌, subst}
use Rattle.std.specs.Prelude.{if◌then◌else◌, Option, Some, None, IsErrAnd}
use Rattle.std.specs.Option.{option_map}
use Rattle.std.proofs.lemmas.Result.{err_from_is_err_and}
use Rattle.spec_file.specs.declared.data.PageNo.{PageNo}
use Rattle.spec_file.specs.CatalogRows.{CatalogRow}
use Rattle.spec_file.specs.Image.{page}
use Rattle.spec_file.specs.Roles.{is_ordinary}
use Rattle.spec_words.specs.Views.{View, Plan}
use Rattle.spec_words.specs.Words.{first_of}
use Rattle.spec_words.specs.Heaps.{room_on}
use Rattle.db_locks.specs.declared.plan_pages.PageStop.{PageStop}
use Rattle.db_locks.specs.States.{PlanState}
use Rattle.db_locks.specs.Does.{DoesAfter, Stays, stop_of}
use Rattle.db_locks.proofs.LoopLaws.{Leads, first_more, first_found, first_exit, first_end}
use Rattle.db_alloc.specs.Results.{value_as}
use Rattle.db_alloc.specs.Tables.{numbers}
use Rattle.db_alloc.proofs.Chains.{leads_plan}
use Rattle.db_alloc.proofs.Lists.{drop_at, drop_none, all_at}
use Rattle.db_alloc.proofs.Steps.{does_plan}
use Rattle.db_heap.specs.Inserts.{WasByteRead, HasRoomOn}

abbrev room_at : PlanState → CatalogRow → ℕ → ℕ → Plan (Option ℕ)
room_at a row size = room_on a.view.shape row size

abbrev number_at : List PageNo → ℕ → ℕ
number_at pages i = (get_or pages i (record { 0 = 0 })).0

-- what a call did at one of the pages, whose PFS bytes were read, by the view at the beginning
one_done : {a b c : PlanState} (looked : List ℕ) (row : CatalogRow) (size : ℕ) (pages : List PageNo) (i : ℕ) {result : Result (Option ℕ) PageStop} → i < length pages → b.view ≡ a.view → Stays a b
    → (IsTrue a.told → All (WasByteRead looked a.view) (numbers pages))
    → ((IsTrue b.told → WasByteRead looked b.view (number_at pages i)) → DoesAfter looked b c (room_on b.view.shape row size (number_at pages i)) result)
    → DoesAfter looked b c (room_at a row size (number_at pages i)) result
one_done {a} {b} {c} looked row size pages i lt same stays before d =
    does_plan (ap (λ (v : View). room_on v.shape row size (number_at pages i)) same)
    (d (λ told. subst (λ (v : View). WasByteRead looked v (number_at pages i)) (sym same) (all_at (WasByteRead looked a.view) pages i (record { 0 = 0 }) lt (before (sym stays.told ∙ told)))))

here : {a b : PlanState} (looked : List ℕ) (row : CatalogRow) (size : ℕ) (pages : List PageNo) (i : ℕ) → i < length pages
    → Leads stop_of looked a b (first_of (room_at a row size) (numbers pages)) (first_of (room_at a row size) (numbers (drop i pages)))
    → Leads stop_of looked a b (first_of (room_at a row size) (numbers pages)) (first_of (room_at a row size) (number_at pages i ∷ numbers (drop (i + 1) pages)))
here {a} looked row size pages i lt l = leads_plan (ap (first_of (room_at a row size)) (drop_at pages i (record { 0 = 0 }) lt)) l

pub search_more : {a b c : PlanState} (looked : List ℕ) (row : CatalogRow) (size : ℕ) (pages : List PageNo) (i : ℕ) (fits : Bool) → i < length pages → fits ≡ false → b.view ≡ a.view → Stays a b
    → (IsTrue a.told → All (WasByteRead looked a.view) (numbers pages))
    → Leads stop_of looked a b (first_of (room_at a row size) (numbers pages)) (first_of (room_at a row size) (numbers (drop i pages)))
    → ((IsTrue b.told → WasByteRead looked b.view (number_at pages i)) → DoesAfter looked b c (room_on b.view.shape row size (number_at pages i)) (Ok (if fits then Some (number_at pages i) else None)))
    → Leads stop_of looked a c (first_of (room_at a row size) (numbers pages)) (first_of (room_at a row size) (numbers (drop (i + 1) pages)))
search_more {a} {b} {c} looked row size pages i fits lt none same stays before l d =
    first_more (room_at a row size) (number_at pages i) (numbers (drop (i + 1) pages)) (here looked row size pages i lt l)
    (subst (λ (x : Bool). DoesAfter looked b c (room_at a row size (number_at pages i)) (Ok (if x then Some (number_at pages i) else None))) none (one_done looked row size pages i lt same stays before d))

pub search_found : {a b c : PlanState} (looked : List ℕ) (row : CatalogRow) (size : ℕ) (pages : List PageNo) (i : ℕ) (fits : Bool) → i < length pages → fits ≡ true → b.view ≡ a.view → Stays a b
    → (IsTrue a.told → All (WasByteRead looked a.view) (numbers pages))
    → Leads stop_of looked a b (first_of (room_at a row size) (numbers pages)) (first_of (room_at a row size) (numbers (drop i pages)))
    → ((IsTrue b.told → WasByteRead looked b.view (number_at pages i)) → DoesAfter looked b c (room_on b.view.shape row size (number_at pages i)) (Ok (if fits then Some (number_at pages i) else None)))
    → DoesAfter looked a c (first_of (room_at a row size) (numbers pages)) (Ok (Some (number_at pages i)))
search_found {a} {b} {c} looked row size pages i fits lt some same stays before l d =
    first_found (room_at a row size) (number_at pages i) (numbers (drop (i + 1) pages)) (number_at pages i) (here looked row size pages i lt l)
    (subst (λ (x : Bool). DoesAfter looked b c (room_at a row size (number_at pages i)) (Ok (if x then Some (number_at pages i) else None))) some (one_done looked row size pages i lt same stays before d))

pub search_exit : {a b c : PlanState} (looked : List ℕ) (row : CatalogRow) (size : ℕ) (pages : List PageNo) (i : ℕ) {stop : PageStop} (r : Result (Option PageNo) PageStop) → i < length pages → b.view ≡ a.view → Stays a b
    → (IsTrue a.told → All (WasByteRead looked a.view) (numbers pages))
    → Leads stop_of looked a b (first_of (room_at a row size) (numbers pages)) (first_of (room_at a row size) (numbers (drop i pages)))
    → ((IsTrue b.told → WasByteRead looked b.view (number_at pages i)) → DoesAfter looked b c (room_on b.view.shape row size (number_at pages i)) (Err stop))
    → IsErrAnd r (λ s. s ≡ stop) → DoesAfter looked a c (first_of (room_at a row size) (numbers pages)) (value_as (option_map (λ p. p.0)) r)
search_exit {a} {b} {c} looked row size pages i {stop} r lt same stays before l d h =
    let e = err_from_is_err_and r h in
    subst (λ (q : Result (Option PageNo) PageStop). DoesAfter looked a c (first_of (room_at a row size) (numbers pages)) (value_as (option_map (λ p. p.0)) q)) (sym (e.1 ∙ ap Err e.2))
    (first_exit (room_at a row size) (number_at pages i) (numbers (drop (i + 1) pages)) (here looked row size pages i lt l) (one_done looked row size pages i lt same stays before d) (refl))

pub search_end : {a b : PlanState} (looked : List ℕ) (row : CatalogRow) (size : ℕ) (pages : List PageNo) (i : ℕ) → length pages ≤ i
    → Leads stop_of looked a b (first_of (room_at a row size) (numbers pages)) (first_of (room_at a row size) (numbers (drop i pages)))
    → DoesAfter looked a b (first_of (room_at a row size) (numbers pages)) (Ok None)
search_end {a} looked row size pages i le l = first_end (room_at a row size) (leads_plan (ap (first_of (room_at a row size)) (drop_none pages i le)) l)

-- a page with room has it by the view at the beginning
pub room_before : {a b : PlanState} {row : CatalogRow} {size p : ℕ} {bytes : List ℕ} → b.view ≡ a.view → Stays a b → HasRoomOn b row size p bytes → HasRoomOn a row size p bytes
room_before {a} {b} {row} {size} {p} {bytes} same stays h = record {
  inside = subst (λ (v : View). p < v.shape.pages) same h.inside;
  ordinary = subst (λ (v : View). is_ordinary v.shape.geometry p ≡ true) same h.ordinary;
  heap = h.heap;
  room = h.room;
  seen = λ told. h.seen (stays.told ∙ told) ∙ ap (λ (v : View). page v.now p) same;
}
