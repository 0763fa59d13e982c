-- A page that was found to have room was looked at.
use Rattle.std.proofs.Common.{◌≡◌, refl, ℕ, zero, suc, Bool, true, false, List, [], ◌∷◌, ◌++◌, All, Contains, sym, ap, ◌∙◌, subst, arith}
use Rattle.std.specs.Prelude.{if◌then◌else◌, Option, Some, None}
use Rattle.std.proofs.lemmas.Bool.{true≢false}
use Rattle.std.proofs.lemmas.List.Elements.{Contains-append_left, Contains-append_right}
use Rattle.spec_file.specs.CatalogRows.{CatalogRow}
use Rattle.spec_plan.specs.Rows.{has_room_for}
use Rattle.spec_words.specs.NetChanges.{FileShape}
use Rattle.spec_words.specs.Views.{View, End, Gives, Stops}
use Rattle.spec_words.specs.Words.{gone_on, or_later, ◌then◌, give, sees, first_of}
use Rattle.spec_words.specs.Heaps.{heap_page, room_on}
use Rattle.db_heap.proofs.RoomSteps.{full_by}
use Rattle.db_heap.proofs.RoomLooks.{heap_page_gives}

abbrev is_found : End (Option ℕ) → Bool
is_found (Gives None view) = false
is_found (Gives (Some p) view) = true
is_found (Stops refusal) = false

abbrev found_in : ℕ → End (Option ℕ) → ℕ
found_in other (Gives None view) = other
found_in other (Gives (Some p) view) = p
found_in other (Stops refusal) = other

-- the page that is given is this one, and was looked at
pub record Found (q p : ℕ) (reached : List ℕ) : Type 0 where
  pub same : q ≡ p
  pub reached_it : Contains reached q

room_page : (shape : FileShape) (row : CatalogRow) (size q p : ℕ) (view after : View) → full_by shape q view ≡ false → (ending : End (List ℕ)) → (heap_page shape row q view).ending ≡ ending
    → (gone_on (heap_page shape row q view).reached ending (λ bytes. give (if has_room_for bytes size then Some q else None))).ending ≡ Gives (Some p) after
    → Found q p (gone_on (heap_page shape row q view).reached ending (λ bytes. give (if has_room_for bytes size then Some q else None))).reached
unfolding give
room_page shape row size q p view after full (Stops refusal) is e = absurd (true≢false (sym (ap is_found e)))
room_page shape row size q p view after full (Gives bytes v) is e = by_room (has_room_for bytes size) refl
  where
    looked : Contains ((heap_page shape row q view).reached ++ []) q
    looked = Contains-append_left (heap_page shape row q view).reached [] q (heap_page_gives shape row q view v bytes is).reached

    by_room : (fits : Bool) → has_room_for bytes size ≡ fits → Found q p ((heap_page shape row q view).reached ++ [])
    by_room true fit = let given = rw fit at e in record { same = ap (found_in q) given; reached_it = looked }
    by_room false fit = let given = rw fit at e in absurd (true≢false (sym (ap is_found given)))

room_found : (shape : FileShape) (row : CatalogRow) (size q p : ℕ) (view after : View) → (room_on shape row size q view).ending ≡ Gives (Some p) after → Found q p (room_on shape row size q view).reached
unfolding ◌then◌ sees give
room_found shape row size q p view after e = by_full (full_by shape q view) refl
  where
    by_full : (full : Bool) → full_by shape q view ≡ full → Found q p (room_on shape row size q view).reached
    by_full true is = let given = rw is at e in absurd (true≢false (sym (ap is_found given)))
    by_full false is = let given = rw is at e in rw is (room_page shape row size q p view after is (heap_page shape row q view).ending refl given)

all_rest : (P : ℕ → Type 0) (x : ℕ) (xs : List ℕ) → All P (x ∷ xs) → All P xs
all_rest P x xs h k d lt = h (suc k) d (omega (arith, lt))

-- what holds of all these pages holds of the one that is given, which was looked at
pub record FoundIn (P : ℕ → Type 0) (p : ℕ) (reached : List ℕ) : Type 0 where
  pub holds : P p
  pub reached_it : Contains reached p

first_by : (shape : FileShape) (row : CatalogRow) (size q p : ℕ) (qs : List ℕ) (view after : View) (P : ℕ → Type 0) → P q
    → ((v : View) → (first_of (room_on shape row size) qs v).ending ≡ Gives (Some p) after → FoundIn P p (first_of (room_on shape row size) qs v).reached)
    → (reached : List ℕ) (ending : End (Option ℕ)) → ((r : ℕ) (v : View) → ending ≡ Gives (Some r) v → Found q r reached)
    → (gone_on reached ending (λ found. or_later found (first_of (room_on shape row size) qs))).ending ≡ Gives (Some p) after
    → FoundIn P p (gone_on reached ending (λ found. or_later found (first_of (room_on shape row size) qs))).reached
unfolding give
first_by shape row size q p qs view after P h later reached (Stops refusal) is e = absurd (true≢false (sym (ap is_found e)))
first_by shape row size q p qs view after P h later reached (Gives None v) is e =
    let rest = later v e in
    record { holds = rest.holds; reached_it = Contains-append_right reached _ p rest.reached_it }
first_by shape row size q p qs view after P h later reached (Gives (Some r) v) is e =
    let found = is r v refl in
    let same : q ≡ p = found.same ∙ ap (found_in q) e in
    record { holds = subst P same h; reached_it = Contains-append_left reached [] p (subst (λ (k : ℕ). Contains reached k) same found.reached_it) }

pub first_room : (shape : FileShape) (row : CatalogRow) (size p : ℕ) (qs : List ℕ) (view after : View) (P : ℕ → Type 0) → All P qs → (first_of (room_on shape row size) qs view).ending ≡ Gives (Some p) after
    → FoundIn P p (first_of (room_on shape row size) qs view).reached
unfolding first_of ◌then◌ give
first_room shape row size p [] view after P h e = absurd (true≢false (sym (ap is_found e)))
first_room shape row size p (q ∷ qs) view after P h e =
    first_by shape row size q p qs view after P (h zero q (omega arith)) (λ v given. first_room shape row size p qs v after P (all_rest P q qs h) given)
    (room_on shape row size q view).reached (room_on shape row size q view).ending (λ r v given. room_found shape row size q r view v given) e
