-- What is left where an entry is put or emptied.
use Rattle.std.proofs.Common.{◌≡◌, ◌≢◌, refl, ℕ, ◌+◌, ◌*◌, ◌<◌, ◌≤◌, ◌==◌, ◌&&◌, not, Bool, true, false, IsTrue, List, ◌∷◌, ◌++◌, length, take, drop, filter, replicate, Option, Some, None, ap, sym, ◌∙◌, subst, arith}
use Rattle.std.specs.Prelude.{slice_get, bytes_eq, nat_le}
use Rattle.std.specs.List.{list_any}
use Rattle.std.proofs.lemmas.Bool.{and_parts, and_from, false≢true, eqb-true, eq-eqb, lt-leb}
use Rattle.std.proofs.lemmas.Slice.Eq.{bytes_eq-Decides}
use Rattle.spec_file.specs.Catalog.{entry_count, entry_at, entry_id, entry_name, is_row, is_zeros, IsUsed, PassesCatalog}
use Rattle.spec_file.specs.CatalogRows.{CatalogRow, row_of_entry, rows_of}
use Rattle.spec_file.specs.CatalogBytes.{entry_bytes, with_entry}
use Rattle.spec_file.proofs.EntryLaws.{name_back, row_name_fits, row_used}
use Rattle.spec_file.proofs.CatalogLaws.{IsNewAt, passes_put, empty_is_new, is_other, rows_added, rows_removed, rows_stay, used_row}
use Rattle.db_cat.specs.Changes.{entries_where, free_entry, is_of, entry_of, with_row, MayEnter, IsNewRow}
use Rattle.db_cat.proofs.Places.{entry_fact, no_entry_fact}

-- ---- a row in the lowest empty entry

pub free_within : (boot : List ℕ) (i : ℕ) → free_entry boot ≡ Some i → i < entry_count
free_within boot i h = let fact = entry_fact is_zeros boot i h in let high = fact.high in omega (arith, high)

new_at : (boot : List ℕ) (i : ℕ) (entry : List ℕ) (row : CatalogRow) → entry ≡ entry_bytes row → row_of_entry entry ≡ row → MayEnter boot row → IsNewAt boot i entry
new_at boot i entry row is back new = record {
  row = λ some. subst (λ (bytes : List ℕ). IsTrue (is_row bytes)) (sym is) new.form;
  id = λ some k lt used ne same. new.new.id k lt used (same ∙ ap (λ (r : CatalogRow). r.id) back);
  name = λ some k lt used ne same. new.new.name k lt used (same ∙ ap (λ (r : CatalogRow). r.name) back);
}

pub added_passes : (boot now entry : List ℕ) (i : ℕ) (row : CatalogRow) → entry ≡ entry_bytes row → row_of_entry entry ≡ row → length entry ≡ 40 → now ≡ with_entry i entry boot
    → 136 + 40 * i ≤ length boot → MayEnter boot row → PassesCatalog now
added_passes boot now entry i row is back size put inside new =
    subst PassesCatalog (sym put) (passes_put boot i entry new.passes inside size (new_at boot i entry row is back new))

pub added_rows : (boot now entry : List ℕ) (i : ℕ) (row : CatalogRow) → entry ≡ entry_bytes row → row_of_entry entry ≡ row → length entry ≡ 40 → now ≡ with_entry i entry boot
    → 136 + 40 * i ≤ length boot → MayEnter boot row → free_entry boot ≡ Some i → rows_of now ≡ with_row (free_entry boot) row (rows_of boot)
added_rows boot now entry i row is back size put inside new free =
    let fact = entry_fact is_zeros boot i free in
    let high = fact.high in
    ap rows_of put
    ∙ rows_added boot i entry (omega (arith, high)) inside size fact.holds (λ k lt. fact.before k (omega arith) lt)
    (row_used entry (subst (λ (bytes : List ℕ). IsTrue (is_row bytes)) (sym is) new.form))
    ∙ ap (λ r. take i (rows_of boot) ++ r ∷ drop i (rows_of boot)) back
    ∙ ap (λ o. with_row o row (rows_of boot)) (sym free)

-- ---- an entry that is emptied

pub of_within : (boot : List ℕ) (id i : ℕ) → entry_of boot id ≡ Some i → i < entry_count
of_within boot id i h = let fact = entry_fact (is_of id) boot i h in let high = fact.high in omega (arith, high)

pub removed_passes : (boot now : List ℕ) (i : ℕ) → now ≡ with_entry i (replicate 40 0) boot → 136 + 40 * i ≤ length boot → PassesCatalog boot → PassesCatalog now
removed_passes boot now i put inside passes =
    subst PassesCatalog (sym put) (passes_put boot i (replicate 40 0) passes inside refl (empty_is_new boot i (replicate 40 0) refl))

not_true : (b : Bool) → not b ≡ true → b ≡ false
not_true true h = sym h
not_true false h = refl

pub removed_rows : (boot now : List ℕ) (id i : ℕ) → now ≡ with_entry i (replicate 40 0) boot → 136 + 40 * i ≤ length boot → PassesCatalog boot → entry_of boot id ≡ Some i
    → rows_of now ≡ filter (is_other id) (rows_of boot)
removed_rows boot now id i put inside passes found =
    let fact = entry_fact (is_of id) boot i found in
    let high = fact.high in
    let parts = and_parts (not (is_zeros (entry_at boot i))) (entry_id (entry_at boot i) == id) fact.holds in
    ap rows_of put
    ∙ rows_removed boot i (replicate 40 0) (omega (arith, high)) inside refl refl passes (not_true (is_zeros (entry_at boot i)) parts.0)
    ∙ ap (λ (n : ℕ). filter (is_other n) (rows_of boot)) (eqb-true (entry_id (entry_at boot i)) id parts.1)

pub kept_rows : (boot : List ℕ) (id : ℕ) → entry_of boot id ≡ None → rows_of boot ≡ filter (is_other id) (rows_of boot)
kept_rows boot id none = rows_stay boot id (λ k lt used same. false≢true (
    sym (no_entry_fact (is_of id) boot none k lt)
    ∙ and_from (not (is_zeros (entry_at boot k))) (entry_id (entry_at boot k) == id) (ap not used) (eq-eqb (entry_id (entry_at boot k)) id same)
    ))

-- ---- an object whose id and name no row has

pub new_row : (boot : List ℕ) (row : CatalogRow) → list_any (λ (old : CatalogRow). old.id == row.id) (rows_of boot) ≡ false
    → list_any (λ (old : CatalogRow). bytes_eq old.name row.name) (rows_of boot) ≡ false → IsNewRow boot row
new_row boot row id name = record {
  id = λ k lt used same. false≢true (sym (used_row (λ old. old.id == row.id) boot k lt used id) ∙ eq-eqb _ _ same);
  name = λ k lt used same. false≢true (sym (used_row (λ old. bytes_eq old.name row.name) boot k lt used name) ∙ (bytes_eq-Decides (entry_name (entry_at boot k)) row.name).1 same);
}

-- a row has no longer name
long_by : (row : CatalogRow) → 18 < length row.name → (b : Bool) → is_row (entry_bytes row) ≡ b → false ≡ is_row (entry_bytes row)
long_by row long true e = let short = row_name_fits row e in absurd (omega (arith, long, short))
long_by row long false e = sym e

pub long_name : (row : CatalogRow) → 18 < length row.name → nat_le (length row.name) 18 ≡ is_row (entry_bytes row)
long_name row long = lt-leb (length row.name) 18 long ∙ long_by row long (is_row (entry_bytes row)) refl
