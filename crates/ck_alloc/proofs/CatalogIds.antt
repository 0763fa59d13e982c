-- The ids of a catalog's objects differ, and they are at most 128: so their list by id rises.
use Rattle.std.proofs.Common.{◌≡◌, ℕ, ◌+◌, ◌<◌, ◌≤◌, ◌↔◌, Bool, true, false, List, [], ◌∷◌, length, map, filter, eqb, zero, suc, arith, sym, refl, subst, ap, Contains}
use Rattle.std.specs.List.{AllByRecursion, IsDistinct, range_with_len}
use Rattle.std.specs.List.Sorted.{IsStrictlySortedBy, IsNonDecreasing, IsNonDecreasingBy, IsPermutation}
use Rattle.std.specs.Ordering.{nat_cmp, on}
use Rattle.std.specs.declared.cmp.Ordering.TheVariants.{Less}
use Rattle.std.proofs.lemmas.Bool.{ne_eqb}
use Rattle.std.proofs.lemmas.Bool.Decides.{nat_tests}
use Rattle.std.proofs.lemmas.List.{get_or-map, length-map}
use Rattle.std.proofs.lemmas.List.FromFn.{length-map-range_with_len}
use Rattle.std.proofs.lemmas.List.Sums.{length-filter, count_by-le-length}
use Rattle.std.proofs.lemmas.List.Sorted.{IsPermutation-map, IsPermutation-sym, Contains-permutation, length_permutation}
use Rattle.std.proofs.lemmas.Map.Keys.{IsDistinct-IsPermutation, IsStrictlyIncreasing-from_distinct, sorted_from_strictly_increasing}
use Rattle.spec_file.specs.Catalog.{PassesCatalog, IsUsed, entry_count, entry_at, entry_id, is_zeros}
use Rattle.spec_file.specs.CatalogRows.{CatalogRow, row_of_entry, is_used, rows_before, rows_of}
use Rattle.db_cat.specs.Rows.{row_of}
use Rattle.db_cat.specs.declared.rows.CatRow.{CatRow}

abbrev id_of : CatalogRow → ℕ
id_of r = r.id

-- the ids of the entries that aren't empty
abbrev ids_of : List (List ℕ) → List ℕ
ids_of entries = map id_of (map row_of_entry (filter is_used entries))

-- the bytes of n entries, from entry a on
abbrev entries_from : List ℕ → ℕ → ℕ → List (List ℕ)
entries_from boot a n = map (entry_at boot) (range_with_len a n)

ids_meet : (P : ℕ → Type 0) (entry : List ℕ) (later : List (List ℕ)) (empty : Bool) → is_zeros entry ≡ empty
    → (empty ≡ false → P (entry_id entry)) → AllByRecursion P (ids_of later) → AllByRecursion P (ids_of (entry ∷ later))
ids_meet P entry later true is here behind = rw is behind
ids_meet P entry later false is here behind = rw is (here refl, behind)

-- an id differs from those of later entries
differs_from_later : (boot : List ℕ) → PassesCatalog boot → (i : ℕ) → IsUsed boot i → (a n : ℕ) → i < a → a + n ≤ entry_count
    → AllByRecursion (λ y. eqb (entry_id (entry_at boot i)) y ≡ false) (ids_of (entries_from boot a n))
differs_from_later boot passes i used a zero less within = tt
differs_from_later boot passes i used a (suc n) less within =
    ids_meet (λ y. eqb (entry_id (entry_at boot i)) y ≡ false) (entry_at boot a) (entries_from boot (a + 1) n) (is_zeros (entry_at boot a)) refl
    (λ later. ne_eqb _ _ (λ same. passes.ids a i less (omega arith) later used (sym same)))
    (differs_from_later boot passes i used (a + 1) n (omega arith) (omega arith))

one_more : (entry : List ℕ) (later : List (List ℕ)) (empty : Bool) → is_zeros entry ≡ empty
    → (empty ≡ false → AllByRecursion (λ y. eqb (entry_id entry) y ≡ false) (ids_of later)) → IsDistinct eqb (ids_of later)
    → IsDistinct eqb (ids_of (entry ∷ later))
unfolding IsDistinct
one_more entry later true is here behind = rw is behind
one_more entry later false is here behind = rw is (here refl, behind)

ids_differ_from : (boot : List ℕ) → PassesCatalog boot → (a n : ℕ) → a + n ≤ entry_count → IsDistinct eqb (ids_of (entries_from boot a n))
unfolding IsDistinct
ids_differ_from boot passes a zero within = tt
ids_differ_from boot passes a (suc n) within =
    one_more (entry_at boot a) (entries_from boot (a + 1) n) (is_zeros (entry_at boot a)) refl
    (λ used. differs_from_later boot passes a used (a + 1) n (omega arith) (omega arith))
    (ids_differ_from boot passes (a + 1) n (omega arith))

ids_differ_before : (boot : List ℕ) → PassesCatalog boot → (n : ℕ) → n ≤ entry_count → IsDistinct eqb (map id_of (rows_before boot n))
ids_differ_before boot passes n within = ids_differ_from boot passes 0 n (omega arith)

ids_differ : (boot : List ℕ) → PassesCatalog boot → IsDistinct eqb (map id_of (rows_of boot))
unfolding rows_of
ids_differ boot passes = ids_differ_before boot passes entry_count (omega arith)

few_before : (boot : List ℕ) (n : ℕ) → length (rows_before boot n) ≤ n
few_before boot n =
    let entries = entries_from boot 0 n in
    let rows = length-map (filter is_used entries) row_of_entry in
    omega (arith, rows, length-filter is_used entries, count_by-le-length is_used entries, length-map-range_with_len (entry_at boot) 0 n)

few_of : (boot : List ℕ) → length (rows_of boot) ≤ 128
unfolding rows_of
few_of boot = few_before boot entry_count

pub few_rows : (boot : List ℕ) (rows out : List CatRow) → map row_of rows ≡ rows_of boot → IsPermutation rows out → length out ≤ 128
few_rows boot rows out are moved =
    omega (arith, sym (length-map rows row_of), ap length are, few_of boot, length_permutation rows out moved)

all_on : {X : Type 0} (P : ℕ → Type 0) (f : X → ℕ) (xs : List X) → AllByRecursion P (map f xs) → AllByRecursion (λ x. P (f x)) xs
all_on P f [] h = tt
all_on P f (x ∷ xs) h = (h.0, all_on P f xs h.1)

sorted_on : {X : Type 0} (f : X → ℕ) (xs : List X) → IsStrictlySortedBy nat_cmp (map f xs) → IsStrictlySortedBy (on f nat_cmp) xs
unfolding IsStrictlySortedBy
sorted_on f [] h = tt
sorted_on f (x ∷ xs) h = (all_on (λ y. nat_cmp (f x) y ≡ Less) f xs h.0, sorted_on f xs h.1)

ids_rise : (out : List CatRow) → IsNonDecreasingBy (λ r. r.id.0) out → IsNonDecreasing (map id_of (map row_of out))
ids_rise [] rises i j d less below = absurd (omega (arith, below))
ids_rise (row ∷ out) rises i j d less below =
    let rows = row ∷ out in
    let size = length-map (map row_of rows) id_of in
    let same = length-map rows row_of in
    let lower = get_or-map id_of (map row_of rows) i (row_of row) d (omega arith) in
    let upper = get_or-map id_of (map row_of rows) j (row_of row) d (omega arith) in
    let lower_row = get_or-map row_of rows i row (row_of row) (omega arith) in
    let upper_row = get_or-map row_of rows j row (row_of row) (omega arith) in
    rw (lower, upper, lower_row, upper_row) (rises i j row less (omega arith))

pub sorted_rows : (boot : List ℕ) (rows out : List CatRow) → PassesCatalog boot → map row_of rows ≡ rows_of boot → IsPermutation rows out
    → IsNonDecreasingBy (λ r. r.id.0) out → IsStrictlySortedBy (on (λ r. r.id) nat_cmp) (map row_of out)
sorted_rows boot rows out passes are moved rises =
    let ids = map id_of (map row_of out) in
    let differ : IsDistinct eqb (map id_of (map row_of rows)) = subst (λ l. IsDistinct eqb (map id_of l)) (sym are) (ids_differ boot passes) in
    let apart : IsDistinct eqb ids =
    IsDistinct-IsPermutation eqb (λ x y. grind (arith, nat_tests)) _ _ (IsPermutation-map id_of _ _ (IsPermutation-map row_of rows out moved)) differ in
    sorted_on id_of (map row_of out) (sorted_from_strictly_increasing ids (IsStrictlyIncreasing-from_distinct ids (ids_rise out rises) apart))

pub same_rows : (boot : List ℕ) (rows out : List CatRow) → map row_of rows ≡ rows_of boot → IsPermutation rows out → (r : CatalogRow)
    → Contains (map row_of out) r ↔ Contains (rows_of boot) r
same_rows boot rows out are moved r =
    let mapped = IsPermutation-map row_of rows out moved in (
      λ h. subst (λ l. Contains l r) are (Contains-permutation _ _ r (IsPermutation-sym _ _ mapped) h),
      λ h. Contains-permutation _ _ r mapped (subst (λ l. Contains l r) (sym are) h),
    )
