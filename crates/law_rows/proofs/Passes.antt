-- A page passes the test of a plan exactly where it passes the page test.
use Rattle.std.proofs.Common.{◌≡◌, ◌≢◌, ℕ, ◌<◌, ◌≤◌, ◌⊎◌, ◌||◌, leb, eqb, true, List, Option, Some, None, refl, ap, inl, inr}
use Rattle.std.specs.Prelude.{◌↔◌, is_none}
use Rattle.std.specs.List.{list_all, range_with_len}
use Rattle.std.proofs.lemmas.Bool.{and_parts, and_from, or_cases, or_left, or_right, false≢true, cases_eq, eqb-true, eq-eqb, leb-true, le-leb}
use Rattle.spec_file.specs.declared.data.Kind.TheVariants.{Heap}
use Rattle.spec_file.specs.Header.{header_of, header_version}
use Rattle.spec_rows.specs.Slots.{slot_count, slot_at, row_end}
use Rattle.spec_rows.specs.PageTest.{owner_fault, form_fault, slot_fault, has_free_count, SlotsPass, PassesTest}
use Rattle.spec_rows.proofs.SlotLaws.{row_stands, rows_room}
use Rattle.spec_rows.proofs.ApartLaws.{AreApart, apart_from_order, order_from_apart}
use Rattle.spec_rows.proofs.TestLaws.{header_passes, passes_from}
use Rattle.spec_plan.specs.Rows.{are_rows_apart, passes_page}
use Rattle.law_rows.proofs.Ranges.{all_below, each_below}

none_from : {A : Type 0} (o : Option A) → is_none o ≡ true → o ≡ None
none_from None none = refl
none_from (Some x) none = absurd (false≢true none)

apart_parts : (bytes : List ℕ) (i j : ℕ) → are_rows_apart bytes i j ≡ true → i ≢ j → (row_end bytes i ≤ slot_at bytes j) ⊎ (row_end bytes j ≤ slot_at bytes i)
apart_parts bytes i j apart other =
    let before = leb (row_end bytes i) (slot_at bytes j) in
    let behind = leb (row_end bytes j) (slot_at bytes i) in
    elim (or_cases (eqb i j) (before || behind) apart) [
      | inl same ↦ absurd (other (eqb-true i j same))
      | inr one ↦ elim (or_cases before behind one) [
        | inl ends ↦ inl (leb-true (row_end bytes i) (slot_at bytes j) ends)
        | inr ends ↦ inr (leb-true (row_end bytes j) (slot_at bytes i) ends)
      ]
    ]

apart_from : (bytes : List ℕ) (i j : ℕ) → AreApart bytes → i < slot_count bytes → j < slot_count bytes → are_rows_apart bytes i j ≡ true
apart_from bytes i j apart first second =
    let before = leb (row_end bytes i) (slot_at bytes j) in
    let behind = leb (row_end bytes j) (slot_at bytes i) in
    elim (cases_eq i j) [
      | inl same ↦ or_left (eqb i j) (before || behind) (eq-eqb i j same)
      | inr other ↦ or_right (eqb i j) (before || behind) (elim (apart i j first second other) [
        | inl ends ↦ or_left before behind (le-leb (row_end bytes i) (slot_at bytes j) ends)
        | inr ends ↦ or_right before behind (le-leb (row_end bytes j) (slot_at bytes i) ends)
      ])
    ]

pub test_from : (p o : ℕ) (bytes : List ℕ) → passes_page p o bytes ≡ true → PassesTest p o Heap bytes
unfolding passes_page
test_from p o bytes passes =
    let count = slot_count bytes in
    let owner = and_parts (is_none (owner_fault p o Heap (header_of bytes))) _ passes in
    let form = and_parts (is_none (form_fault Heap (header_version bytes) (header_of bytes))) _ owner.1 in
    let slot = and_parts (list_all (λ i. is_none (slot_fault Heap bytes i)) (range_with_len 0 count)) _ form.1 in
    let rest = and_parts (list_all (λ i. list_all (are_rows_apart bytes i) (range_with_len 0 count)) (range_with_len 0 count)) (has_free_count bytes) slot.1 in
    let slots : SlotsPass Heap bytes = λ i within. none_from (slot_fault Heap bytes i) (each_below (λ k. is_none (slot_fault Heap bytes k)) count i slot.0 within) in
    let apart : AreApart bytes =
    λ i j first second other. apart_parts bytes i j (each_below (are_rows_apart bytes i) count j (each_below (λ k. list_all (are_rows_apart bytes k) (range_with_len 0 count)) count i rest.0 first) second) other in
    passes_from p o Heap bytes
    (record {
      owner = none_from (owner_fault p o Heap (header_of bytes)) owner.0;
      form = none_from (form_fault Heap (header_version bytes) (header_of bytes)) form.0;
    })
    slots (order_from_apart bytes (λ i within. (row_stands Heap bytes i (slots i within)).least) apart) rest.1

pub test_into : (p o : ℕ) (bytes : List ℕ) → PassesTest p o Heap bytes → passes_page p o bytes ≡ true
unfolding passes_page
test_into p o bytes test =
    let count = slot_count bytes in
    let header = header_passes p o Heap bytes test in
    let holds = test.rest.holds in
    let apart = apart_from_order bytes (rows_room (header_of bytes) holds.room).few holds.order in
    and_from _ _ (ap is_none header.owner) (and_from _ _ (ap is_none header.form)
    (and_from _ _ (all_below (λ i. is_none (slot_fault Heap bytes i)) count (λ i within. ap is_none (holds.slots i within)))
    (and_from _ _ (all_below (λ i. list_all (are_rows_apart bytes i) (range_with_len 0 count)) count
    (λ i first. all_below (are_rows_apart bytes i) count (λ j second. apart_from bytes i j apart first second))) holds.free)))

pub page_passes : (p o : ℕ) (bytes : List ℕ) → (passes_page p o bytes ≡ true) ↔ PassesTest p o Heap bytes
page_passes p o bytes = (test_from p o bytes, test_into p o bytes)
