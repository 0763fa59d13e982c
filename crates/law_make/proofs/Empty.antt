-- A page whose content is zeros has an empty catalog.
use Rattle.std.proofs.Common.{◌≡◌, refl, ℕ, zero, suc, ◌+◌, ◌-◌, ◌*◌, true, false, not, List, [], ◌++◌, length, take, drop, replicate, ap, sym, ◌∙◌}
use Rattle.std.specs.Prelude.{map, filter}
use Rattle.std.specs.List.{range_with_len}
use Rattle.std.proofs.lemmas.Bool.{true≢false}
use Rattle.std.proofs.lemmas.List.{drop-drop, drop_at, drop-replicate}
use Rattle.spec_file.specs.Catalog.{entry_at, entry_count, is_zeros, PassesCatalog}
use Rattle.spec_file.specs.CatalogRows.{is_used, rows_of, row_of_entry}

-- the first of some zeros are zeros
zeros_front : (n m : ℕ) → is_zeros (take n (replicate m 0)) ≡ true
zeros_front zero m = refl
zeros_front (suc n) zero = refl
zeros_front (suc n) (suc m) = zeros_front n m

-- each entry is empty
pub empty_entry : (head : List ℕ) (n i : ℕ) → length head ≡ 96 → is_zeros (entry_at (head ++ replicate n 0) i) ≡ true
unfolding entry_at
empty_entry head n i long =
    ap (λ (l : List ℕ). is_zeros (take (136 + 40 * i - (96 + 40 * i)) l))
    (sym (drop-drop (40 * i) 96 (head ++ replicate n 0)) ∙ ap (drop (40 * i)) (drop_at head (replicate n 0) 96 long) ∙ drop-replicate (40 * i) n 0)
    ∙ zeros_front (136 + 40 * i - (96 + 40 * i)) (n - 40 * i)

-- so the catalog passes its test
pub passes_empty : (head : List ℕ) (n : ℕ) → length head ≡ 96 → PassesCatalog (head ++ replicate n 0)
passes_empty head n long = record {
  rows = λ i within used. absurd (true≢false (sym (empty_entry head n i long) ∙ used));
  ids = λ i j order within used other. absurd (true≢false (sym (empty_entry head n i long) ∙ used));
  names = λ i j order within used other. absurd (true≢false (sym (empty_entry head n i long) ∙ used));
}

no_rows : (boot : List ℕ) (a n : ℕ) → ((i : ℕ) → is_zeros (entry_at boot i) ≡ true) → filter is_used (map (entry_at boot) (range_with_len a n)) ≡ []
no_rows boot a zero empty = refl
no_rows boot a (suc n) empty =
    let none : is_used (entry_at boot a) ≡ false = ap not (empty a) in
    rw none (no_rows boot (a + 1) n empty)

-- and it holds no object
pub no_objects : (head : List ℕ) (n : ℕ) → length head ≡ 96 → rows_of (head ++ replicate n 0) ≡ []
unfolding rows_of
no_objects head n long = ap (map row_of_entry) (no_rows (head ++ replicate n 0) 0 entry_count (λ i. empty_entry head n i long))
