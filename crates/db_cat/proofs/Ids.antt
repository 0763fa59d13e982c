-- Of one more id than there are rows one is free.
use Rattle.std.proofs.Common.{◌≡◌, ◌≢◌, refl, ℕ, zero, suc, ◌+◌, ◌<◌, ◌≤◌, ◌==◌, ◌||◌, not, Bool, true, false, List, [], ◌∷◌, length, map, filter, ap, sym, ◌∙◌, subst, arith, inl, inr}
use Rattle.std.specs.Prelude.{Option, Some, slice_get}
use Rattle.std.specs.List.{list_any, range_with_len}
use Rattle.std.proofs.lemmas.Bool.{cases_eq, ne_eqb, eq-eqb, eqb-true, false≢true}
use Rattle.std.proofs.lemmas.List.{length-map}
use Rattle.std.proofs.lemmas.List.FromFn.{length-map-range_with_len}
use Rattle.std.proofs.lemmas.List.Sums.{length-filter, count_by-le-length}
use Rattle.spec_file.specs.Catalog.{entry_count, entry_at}
use Rattle.spec_file.specs.CatalogRows.{CatalogRow, row_of_entry, is_used, rows_before, rows_of}
use Rattle.db_cat.specs.Changes.{free_ids}
use Rattle.db_cat.proofs.Places.{lowest_is}

has : ℕ → List ℕ → Bool
has k xs = list_any (λ (x : ℕ). x == k) xs

abbrev without : ℕ → List ℕ → List ℕ
without n xs = filter (λ (x : ℕ). not (x == n)) xs

kept : (x k n : ℕ) (xs : List ℕ) → (b : Bool) → (x == n) ≡ b → k ≢ n → has k (x ∷ xs) ≡ true → (has k xs ≡ true → has k (without n xs) ≡ true) → has k (without n (x ∷ xs)) ≡ true
unfolding has
kept x k n xs true e ne h rest = rw e (rest (
    let gone : (x == k) ≡ false = ne_eqb x k (λ same. ne (sym same ∙ eqb-true x n e)) in rw gone at h
    ))
kept x k n xs false e ne h rest = rw e (elim (cases_eq x k) [
  | inl same ↦ rw (eq-eqb x k same) refl
  | inr other ↦ let gone = ne_eqb x k other in rw gone (rest (rw gone at h))
])

any_kept : (k n : ℕ) (xs : List ℕ) → k ≢ n → has k xs ≡ true → has k (without n xs) ≡ true
unfolding has
any_kept k n [] ne h = h
any_kept k n (x ∷ xs) ne h = kept x k n xs (x == n) refl ne h (λ more. any_kept k n xs ne more)

few_by : (n x : ℕ) (xs : List ℕ) (b : Bool) → (x == n) ≡ b → length (without n xs) ≤ length xs → length (without n (x ∷ xs)) ≤ length (x ∷ xs)
few_by n x xs true e rest = rw e (omega (arith, rest))
few_by n x xs false e rest = rw e (omega (arith, rest))

few : (n : ℕ) (xs : List ℕ) → length (without n xs) ≤ length xs
few n [] = omega arith
few n (x ∷ xs) = few_by n x xs (x == n) refl (few n xs)

less_by : (n x : ℕ) (xs : List ℕ) (b : Bool) → (x == n) ≡ b → has n (x ∷ xs) ≡ true → (has n xs ≡ true → length (without n xs) < length xs) → length (without n (x ∷ xs)) < length (x ∷ xs)
unfolding has
less_by n x xs true e h rest = let all = few n xs in rw e (omega (arith, all))
less_by n x xs false e h rest = let less = rest (rw e at h) in rw e (omega (arith, less))

one_less : (n : ℕ) (xs : List ℕ) → has n xs ≡ true → length (without n xs) < length xs
unfolding has
one_less n [] h = absurd (false≢true h)
one_less n (x ∷ xs) h = less_by n x xs (x == n) refl h (λ rest. one_less n xs rest)

-- a list that has all numbers from 1 to n has n elements at least
many : (n : ℕ) (xs : List ℕ) → ((k : ℕ) → 1 ≤ k → k ≤ n → has k xs ≡ true) → n ≤ length xs
many zero xs h = omega arith
many (suc n) xs h =
    let less = one_less (suc n) xs (h (suc n) (omega arith) (omega arith)) in
    let rest = many n (without (suc n) xs) (λ k from to. any_kept k (suc n) xs (λ e. absurd (omega (arith, to, e))) (h k from (omega (arith, to)))) in
    omega (arith, less, rest)

by_ids : (k : ℕ) (rows : List CatalogRow) → list_any (λ (row : CatalogRow). row.id == k) rows ≡ has k (map (λ (row : CatalogRow). row.id) rows)
unfolding has
by_ids k [] = refl
by_ids k (row ∷ rows) = ap (λ b. (row.id == k) || b) (by_ids k rows)

pub not_all_taken : (n : ℕ) (rows : List CatalogRow) → length rows + 2 ≤ n → ((k : ℕ) → 1 ≤ k → k < n → list_any (λ (row : CatalogRow). row.id == k) rows ≡ true) → ⊥
not_all_taken n rows more h =
    let ids = map (λ (row : CatalogRow). row.id) rows in
    let count = many (length rows + 1) ids (λ k from to. sym (by_ids k rows) ∙ h k from (omega (arith, to, more))) in
    omega (arith, count, length-map rows (λ (row : CatalogRow). row.id))

pub free_is : (rows : List CatalogRow) (id : ℕ) → 1 ≤ id → id < length rows + 2 → list_any (λ (row : CatalogRow). row.id == id) rows ≡ false
    → ((k : ℕ) → 1 ≤ k → k < id → list_any (λ (row : CatalogRow). row.id == k) rows ≡ true) → slice_get (free_ids rows) 0 ≡ Some id
unfolding free_ids
free_is rows id low high here before =
    lowest_is (λ k. not (list_any (λ (row : CatalogRow). row.id == k) rows)) 1 (length rows + 1) id low (omega (arith, high)) (ap not here) (λ k from to. ap not (before k from to))

-- a catalog has no more rows than entries
few_before : (boot : List ℕ) (n : ℕ) → length (rows_before boot n) ≤ n
few_before boot n =
    let entries = map (entry_at boot) (range_with_len 0 n) in
    let rows = length-map (filter is_used entries) row_of_entry in
    omega (arith, rows, length-filter is_used entries, count_by-le-length is_used entries, length-map-range_with_len (entry_at boot) 0 n)

pub few_of : (boot : List ℕ) → length (rows_of boot) ≤ 128
unfolding rows_of
few_of boot = few_before boot entry_count
