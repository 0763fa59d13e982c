-- Two objects of a catalog with the same id are one.
use Rattle.std.proofs.Common.{◌≡◌, ℕ, ◌+◌, ◌<◌, ◌≤◌, Bool, true, false, List, [], ◌∷◌, map, filter, eqb, zero, suc, arith, sym, refl, ap, ◌∙◌, Contains, ⊎_elim}
use Rattle.std.specs.List.{AllByRecursion, IsDistinct, range_with_len}
use Rattle.std.proofs.lemmas.Bool.{ne_eqb, eq-eqb, both_ways}
use Rattle.std.proofs.lemmas.List.Elements.{All-from_recursion, All-contains}
use Rattle.spec_file.specs.Catalog.{PassesCatalog, IsUsed, entry_count, entry_at, entry_id, is_zeros}
use Rattle.spec_file.specs.CatalogRows.{CatalogRow, row_of_entry, is_used, rows_before, rows_of}
use Rattle.spec_check.proofs.Members.{cons_cases, map_in, nothing_there}

abbrev id_of : CatalogRow → ℕ
id_of r = r.id

abbrev ids_of : List (List ℕ) → List ℕ
ids_of entries = map id_of (map row_of_entry (filter is_used entries))

abbrev entries_from : List ℕ → ℕ → ℕ → List (List ℕ)
entries_from boot a n = map (entry_at boot) (range_with_len a n)

ids_meet : (P : ℕ → Type 0) (entry : List ℕ) (later : List (List ℕ)) (empty : Bool) → is_zeros entry ≡ empty
    → (empty ≡ false → P (entry_id entry)) → AllByRecursion P (ids_of later) → AllByRecursion P (ids_of (entry ∷ later))
ids_meet P entry later true is here behind = rw is behind
ids_meet P entry later false is here behind = rw is (here refl, behind)

differs_from_later : (boot : List ℕ) → PassesCatalog boot → (i : ℕ) → IsUsed boot i → (a n : ℕ) → i < a → a + n ≤ entry_count
    → AllByRecursion (λ y. eqb (entry_id (entry_at boot i)) y ≡ false) (ids_of (entries_from boot a n))
differs_from_later boot passes i used a zero less within = tt
differs_from_later boot passes i used a (suc n) less within =
    ids_meet (λ y. eqb (entry_id (entry_at boot i)) y ≡ false) (entry_at boot a) (entries_from boot (a + 1) n) (is_zeros (entry_at boot a)) refl
    (λ later. ne_eqb _ _ (λ same. passes.ids a i less (omega arith) later used (sym same)))
    (differs_from_later boot passes i used (a + 1) n (omega arith) (omega arith))

one_more : (entry : List ℕ) (later : List (List ℕ)) (empty : Bool) → is_zeros entry ≡ empty
    → (empty ≡ false → AllByRecursion (λ y. eqb (entry_id entry) y ≡ false) (ids_of later)) → IsDistinct eqb (ids_of later)
    → IsDistinct eqb (ids_of (entry ∷ later))
unfolding IsDistinct
one_more entry later true is here behind = rw is behind
one_more entry later false is here behind = rw is (here refl, behind)

ids_differ_from : (boot : List ℕ) → PassesCatalog boot → (a n : ℕ) → a + n ≤ entry_count → IsDistinct eqb (ids_of (entries_from boot a n))
unfolding IsDistinct
ids_differ_from boot passes a zero within = tt
ids_differ_from boot passes a (suc n) within =
    one_more (entry_at boot a) (entries_from boot (a + 1) n) (is_zeros (entry_at boot a)) refl
    (λ used. differs_from_later boot passes a used (a + 1) n (omega arith) (omega arith))
    (ids_differ_from boot passes (a + 1) n (omega arith))

ids_differ_before : (boot : List ℕ) → PassesCatalog boot → (n : ℕ) → n ≤ entry_count → IsDistinct eqb (map id_of (rows_before boot n))
ids_differ_before boot passes n within = ids_differ_from boot passes 0 n (omega arith)

ids_differ : (boot : List ℕ) → PassesCatalog boot → IsDistinct eqb (map id_of (rows_of boot))
unfolding rows_of
ids_differ boot passes = ids_differ_before boot passes entry_count (omega arith)

-- a member of the rest has another id than the first
apart : (x b : CatalogRow) (xs : List CatalogRow) → IsDistinct eqb (map id_of (x ∷ xs)) → Contains xs b → x.id ≡ b.id → ⊥
unfolding IsDistinct
apart x b xs distinct there same =
    both_ways (eqb x.id b.id) (All-contains (λ y. eqb x.id y ≡ false) (map id_of xs) b.id (All-from_recursion (λ y. eqb x.id y ≡ false) (map id_of xs) distinct.0) (map_in id_of xs b there))
    (eq-eqb x.id b.id same)

rest_distinct : (x : CatalogRow) (xs : List CatalogRow) → IsDistinct eqb (map id_of (x ∷ xs)) → IsDistinct eqb (map id_of xs)
unfolding IsDistinct
rest_distinct x xs distinct = distinct.1

one_of : (xs : List CatalogRow) (a b : CatalogRow) → ((IsDistinct eqb (map id_of xs) → ⊥) → ⊥) → Contains xs a → Contains xs b → a.id ≡ b.id → a ≡ b
one_of [] a b distinct at_a at_b same = absurd (nothing_there a at_a)
one_of (x ∷ xs) a b distinct at_a at_b same = ⊎_elim
    (λ is_a. ⊎_elim (λ is_b. sym is_a ∙ is_b) (λ later. absurd (distinct (λ d. apart x b xs d later (ap id_of is_a ∙ same)))) (cons_cases x xs b at_b))
    (λ later_a. ⊎_elim (λ is_b. absurd (distinct (λ d. apart x a xs d later_a (ap id_of is_b ∙ sym same))))
    (λ later_b. one_of xs a b (λ h. distinct (λ d. h (rest_distinct x xs d))) later_a later_b same) (cons_cases x xs b at_b))
    (cons_cases x xs a at_a)

pub one_row : (boot : List ℕ) (a b : CatalogRow) → ((PassesCatalog boot → ⊥) → ⊥) → Contains (rows_of boot) a → Contains (rows_of boot) b → a.id ≡ b.id → a ≡ b
one_row boot a b passes at_a at_b same = one_of (rows_of boot) a b (λ h. passes (λ p. h (ids_differ boot p))) at_a at_b same
