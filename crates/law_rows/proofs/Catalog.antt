-- A catalog passes the test of a plan exactly where it passes the test of page 9.
use Rattle.std.proofs.Common.{◌≡◌, ℕ, ◌<◌, ◌&&◌, true, false, not, List, inl, inr}
use Rattle.std.specs.Prelude.{◌↔◌, ◌==◌, bytes_eq}
use Rattle.std.specs.List.{list_all, range_with_len}
use Rattle.std.proofs.lemmas.Bool.{and_parts, and_from, or_cases, or_left, or_right, both_ways, cases_Bool, not-true, not_from_false, eq-eqb, ne_eqb, false_from_ne_true}
use Rattle.std.proofs.lemmas.Slice.Eq.{bytes_eq-Decides}
use Rattle.spec_file.specs.Catalog.{entry_count, entry_at, entry_id, entry_name, is_zeros, is_row, IsUsed, PassesCatalog}
use Rattle.spec_plan.specs.Reading.{are_apart, is_good_entry, passes_catalog}
use Rattle.law_rows.proofs.Ranges.{all_below, each_below}

-- an entry that isn't empty is a row, and apart from the earlier ones
good_parts : (boot : List ℕ) (i : ℕ) → passes_catalog boot ≡ true → i < entry_count → IsUsed boot i →
    (is_row (entry_at boot i) ≡ true) × (list_all (are_apart boot i) (range_with_len 0 i) ≡ true)
unfolding passes_catalog
good_parts boot i passes within used =
    elim (or_cases (is_zeros (entry_at boot i)) (is_row (entry_at boot i) && list_all (are_apart boot i) (range_with_len 0 i)) (each_below (is_good_entry boot) entry_count i passes within)) [
      | inl empty ↦ absurd (both_ways (is_zeros (entry_at boot i)) used empty)
      | inr row ↦ and_parts (is_row (entry_at boot i)) (list_all (are_apart boot i) (range_with_len 0 i)) row
    ]

-- two entries that aren't empty differ in both
apart_parts : (boot : List ℕ) (i j : ℕ) → passes_catalog boot ≡ true → j < i → i < entry_count → IsUsed boot i → IsUsed boot j →
    ((entry_id (entry_at boot i) == entry_id (entry_at boot j)) ≡ false) × (bytes_eq (entry_name (entry_at boot i)) (entry_name (entry_at boot j)) ≡ false)
apart_parts boot i j passes order within used used' =
    let same_id = entry_id (entry_at boot i) == entry_id (entry_at boot j) in
    let same_name = bytes_eq (entry_name (entry_at boot i)) (entry_name (entry_at boot j)) in
    let good = good_parts boot i passes within used in
    elim (or_cases (is_zeros (entry_at boot j)) (not same_id && not same_name) (each_below (are_apart boot i) i j good.1 order)) [
      | inl empty ↦ absurd (both_ways (is_zeros (entry_at boot j)) used' empty)
      | inr apart ↦
          let parts = and_parts (not same_id) (not same_name) apart in
          (not-true same_id parts.0, not-true same_name parts.1)
    ]

catalog_from : (boot : List ℕ) → passes_catalog boot ≡ true → PassesCatalog boot
catalog_from boot passes = record {
  rows = λ i within used. (good_parts boot i passes within used).0;
  ids = λ i j order within used used' same.
      both_ways _ (apart_parts boot i j passes order within used used').0 (eq-eqb (entry_id (entry_at boot i)) (entry_id (entry_at boot j)) same);
  names = λ i j order within used used' same.
      both_ways _ (apart_parts boot i j passes order within used used').1 ((bytes_eq-Decides (entry_name (entry_at boot i)) (entry_name (entry_at boot j))).1 same);
}

apart_from : (boot : List ℕ) (i j : ℕ) → PassesCatalog boot → j < i → i < entry_count → IsUsed boot i → are_apart boot i j ≡ true
apart_from boot i j passes order within used =
    let name = entry_name (entry_at boot i) in
    let name' = entry_name (entry_at boot j) in
    let same_id = entry_id (entry_at boot i) == entry_id (entry_at boot j) in
    elim (cases_Bool (is_zeros (entry_at boot j))) [
      | inl empty ↦ or_left (is_zeros (entry_at boot j)) _ empty
      | inr used' ↦ or_right (is_zeros (entry_at boot j)) _ (and_from (not same_id) (not (bytes_eq name name'))
          (not_from_false same_id (ne_eqb (entry_id (entry_at boot i)) (entry_id (entry_at boot j)) (passes.ids i j order within used used')))
          (not_from_false (bytes_eq name name') (false_from_ne_true (bytes_eq name name')
          (λ same. passes.names i j order within used used' ((bytes_eq-Decides name name').0 same)))))
    ]

good_from : (boot : List ℕ) (i : ℕ) → PassesCatalog boot → i < entry_count → is_good_entry boot i ≡ true
good_from boot i passes within = elim (cases_Bool (is_zeros (entry_at boot i))) [
  | inl empty ↦ or_left (is_zeros (entry_at boot i)) _ empty
  | inr used ↦ or_right (is_zeros (entry_at boot i)) _ (and_from (is_row (entry_at boot i)) _ (passes.rows i within used)
      (all_below (are_apart boot i) i (λ j order. apart_from boot i j passes order within used)))
]

catalog_into : (boot : List ℕ) → PassesCatalog boot → passes_catalog boot ≡ true
unfolding passes_catalog
catalog_into boot passes = all_below (is_good_entry boot) entry_count (λ i within. good_from boot i passes within)

pub catalog_passes : (boot : List ℕ) → (passes_catalog boot ≡ true) ↔ PassesCatalog boot
catalog_passes boot = (catalog_from boot, catalog_into boot)
