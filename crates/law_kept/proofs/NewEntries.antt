-- The entry of a new heap: its bytes are those of a row, and no other entry has its id or its name.
use Rattle.std.proofs.Common.{◌≡◌, ℕ, zero, suc, ◌+◌, ◌-◌, ◌*◌, ◌^◌, ◌<◌, ◌≤◌, ◌==◌, ◌&&◌, not, Bool, true, false, List, [], ◌∷◌, ◌++◌, length, take, drop, map, filter, replicate, Option, Some, None, refl, sym, ap, subst, ◌∙◌, arith, append_assoc, length-append}
use Rattle.std.specs.Prelude.{bytes_eq, is_some, nat_le, slice_index, slice_range}
use Rattle.std.specs.List.{list_any, list_all, range_with_len}
use Rattle.std.proofs.lemmas.Bool.{and_parts, both_ways, eq-eqb, ne_eqb, leb-true, le-leb, not-true}
use Rattle.std.proofs.lemmas.List.{drop_at, take_at, drop-drop, length-replicate, length-map}
use Rattle.std.proofs.lemmas.List.Filters.{length-filter_both}
use Rattle.std.proofs.lemmas.List.FromFn.{length-map-range_with_len}
use Rattle.std.proofs.lemmas.Slice.Eq.{bytes_eq-Decides}
use Rattle.byteorder.specs.Endian.{little_bytes}
use Rattle.spec_file.specs.Catalog.{entry_count, entry_at, entry_id, entry_name, is_name, is_letter, is_name_byte, is_row, is_zeros, has_kind, has_name}
use Rattle.spec_file.specs.CatalogBytes.{kind_byte, entry_bytes}
use Rattle.spec_file.specs.CatalogRows.{CatalogRow, is_used, row_of_entry, rows_of}
use Rattle.spec_file.specs.Image.{number_at}
use Rattle.spec_file.proofs.CatalogLaws.{used_row}
use Rattle.spec_file.proofs.EntryLaws.{Fits, id_back, name_back, name_length_back, row_back, entry_size, row_used}
use Rattle.spec_plan.specs.Reading.{named_among}
use Rattle.spec_alloc.specs.Objects.{free_id, free_entry}
use Rattle.spec_statements.specs.Objects.{new_heap}
use Rattle.spec_steps.specs.Entries.{AddsEntry}
use Rattle.spec_log.specs.Cells.{with_bytes}
use Rattle.law_alloc.specs.Keeps.{IfFound}
use Rattle.law_alloc.proofs.Singles.{first_kept}
use Rattle.law_kept.proofs.EntryPages.{entry_set}

zeros : (n : ℕ) → is_zeros (replicate n 0) ≡ true
zeros zero = refl
zeros (suc n) = zeros n

name_short : (name : List ℕ) → is_name name ≡ true → length name ≤ 16
name_short [] h = omega arith
name_short (b ∷ rest) h =
    let le = leb-true (length rest) 15 (and_parts (is_letter b && list_all is_name_byte rest) (nat_le (length rest) 15) h).1 in omega (arith, le)

-- what stands behind the name
abbrev numbers : CatalogRow → List ℕ
numbers row = little_bytes 4 row.first_iam ++ (little_bytes 4 row.root ++ replicate 8 0)

pad_zeros : (row : CatalogRow) → length row.name ≤ 18 → is_zeros (slice_range (entry_bytes row) (6 + length row.name) 24) ≡ true
unfolding entry_bytes
pad_zeros row fits =
    let n = length row.name in
    let pad : List ℕ = replicate (18 - n) 0 in
    let rest : drop (6 + n) (entry_bytes row) ≡ pad ++ numbers row = sym (drop-drop n 6 (entry_bytes row)) ∙ drop_at row.name (pad ++ numbers row) n refl in
    let count : length pad ≡ 24 - (6 + n) = length-replicate {A = ℕ} (18 - n) 0 ∙ omega arith in
    ap (λ l. is_zeros (take (24 - (6 + n)) l)) rest ∙ ap is_zeros (take_at pad (numbers row) (24 - (6 + n)) count) ∙ zeros (18 - n)

last_zeros : (row : CatalogRow) → length row.name ≤ 18 → is_zeros (slice_range (entry_bytes row) 32 40) ≡ true
unfolding entry_bytes
last_zeros row fits =
    let pad : List ℕ = replicate (18 - length row.name) 0 in
    let size : length (row.name ++ pad) ≡ 18 = omega (arith, length-append row.name pad, length-replicate {A = ℕ} (18 - length row.name) 0) in
    let behind : drop 24 (entry_bytes row) ≡ numbers row = ap (drop 18) (sym (append_assoc row.name pad (numbers row))) ∙ drop_at (row.name ++ pad) (numbers row) 18 size in
    let rest : drop 32 (entry_bytes row) ≡ replicate 8 0 = sym (drop-drop 8 24 (entry_bytes row)) ∙ ap (drop 8) behind in
    ap (λ l. is_zeros (take 8 l)) rest

kind_is : (row : CatalogRow) → slice_index (entry_bytes row) 4 ≡ kind_byte row.kind
unfolding entry_bytes
kind_is row = refl

module _ (id : ℕ) (name : List ℕ) (q : ℕ) (some : 0 < id) (low_id : id < 256 ^ 4) (named : is_name name ≡ true) (low : q < 256 ^ 4) where
  abbrev row : CatalogRow
  row = new_heap id name q

  abbrev entry : List ℕ
  entry = entry_bytes (new_heap id name q)

  fits : Fits (new_heap id name q)
  fits = record { id = low_id; name = (let short = name_short name named in omega (arith, short)); first_iam = low; root = omega arith }

  pub heap_back : row_of_entry (entry_bytes (new_heap id name q)) ≡ new_heap id name q
  heap_back = row_back (new_heap id name q) fits

  pub heap_long : length (entry_bytes (new_heap id name q)) ≡ 40
  heap_long = entry_size (new_heap id name q) fits.name

  has_id : (entry_id entry == 0) ≡ false
  has_id = ne_eqb (entry_id entry) 0 (λ none. let back = id_back (new_heap id name q) low_id in omega (arith, none, back, some))

  is_heap : has_kind entry ≡ true
  is_heap =
      let root : number_at 4 28 entry ≡ 0 = ap (λ (r : CatalogRow). r.root) heap_back in
      rw (kind_is (new_heap id name q), root) refl

  is_named : has_name entry ≡ true
  is_named =
      let long = name_length_back (new_heap id name q) in
      let short = le-leb (length name) 16 (name_short name named) in
      rw (name_back (new_heap id name q), long, short, named, pad_zeros (new_heap id name q) fits.name) refl

  heap_form : is_row entry ≡ true
  heap_form = rw (has_id, is_heap, is_named, last_zeros (new_heap id name q) fits.name) refl

  -- the entry is added
  pub heap_added : (boot : List ℕ) (i : ℕ) → length boot ≡ 8192 → i < entry_count → is_zeros (entry_at boot i) ≡ true → list_any (λ (r : CatalogRow). r.id == id) (rows_of boot) ≡ false
      → list_any (λ (r : CatalogRow). bytes_eq r.name name) (rows_of boot) ≡ false → AddsEntry i entry boot (with_bytes boot (96 + 40 * i) entry)
  heap_added boot i long within empty new_id new_name = record {
    set = entry_set i entry boot within heap_long long;
    was_empty = empty;
    used = row_used entry heap_form;
    form = heap_form;
    id = λ j low used same. both_ways (entry_id (entry_at boot j) == id) (used_row (λ r. r.id == id) boot j low used new_id) (eq-eqb _ _ (same ∙ id_back (new_heap id name q) low_id));
    name = λ j low used same. both_ways (bytes_eq (entry_name (entry_at boot j)) name) (used_row (λ r. bytes_eq r.name name) boot j low used new_name)
        ((bytes_eq-Decides (entry_name (entry_at boot j)) name).1 (same ∙ name_back (new_heap id name q)));
  }

-- which id and entry are free
few_rows : (boot : List ℕ) → length (rows_of boot) ≤ 128
unfolding rows_of
few_rows boot =
    let entries = map (entry_at boot) (range_with_len 0 entry_count) in
    let all = length-filter_both is_used (λ e. not (is_used e)) (λ e. refl) entries in
    omega (arith, length-map (filter is_used entries) row_of_entry, all, length-map-range_with_len (entry_at boot) 0 entry_count)

pub record IsFreeId (boot : List ℕ) (id : ℕ) : Type 0 where
  pub some : 0 < id
  pub low : id < 256 ^ 4
  pub new : list_any (λ (row : CatalogRow). row.id == id) (rows_of boot) ≡ false

from_some : (Holds : ℕ → Type 0) (o : Option ℕ) (x : ℕ) → o ≡ Some x → IfFound Holds o → Holds x
from_some Holds None x e h = absurd (cc)
from_some Holds (Some y) x e h = subst (IfFound Holds) e h

pub id_is_free : (boot : List ℕ) (id : ℕ) → free_id boot ≡ Some id → IsFreeId boot id
id_is_free boot id found =
    let few = few_rows boot in
    from_some (IsFreeId boot) (free_id boot) id found
    (first_kept (IsFreeId boot) (λ id. not (list_any (λ row. row.id == id) (rows_of boot))) (length (rows_of boot) + 1) 1 (λ p low high free.
    record { some = omega (arith, low); low = omega (arith, high, few); new = not-true (list_any (λ (row : CatalogRow). row.id == p) (rows_of boot)) free }))

pub entry_is_free : (boot : List ℕ) (i : ℕ) → free_entry boot ≡ Some i → (i < entry_count) × (is_zeros (entry_at boot i) ≡ true)
entry_is_free boot i found =
    from_some (λ k. (k < entry_count) × (is_zeros (entry_at boot k) ≡ true)) (free_entry boot) i found
    (first_kept (λ k. (k < entry_count) × (is_zeros (entry_at boot k) ≡ true)) (λ k. is_zeros (entry_at boot k)) entry_count 0 (λ k low high empty. (omega (arith, high), empty)))

first_free : (row : CatalogRow) (rows : List CatalogRow) (name : List ℕ) (b : Bool) → bytes_eq row.name name ≡ b → is_some (named_among (row ∷ rows) name) ≡ false
    → (is_some (named_among rows name) ≡ false → list_any (λ (r : CatalogRow). bytes_eq r.name name) rows ≡ false) → list_any (λ (r : CatalogRow). bytes_eq r.name name) (row ∷ rows) ≡ false
first_free row rows name true e none rest = let some : is_some (named_among (row ∷ rows) name) ≡ true = rw e refl in absurd (both_ways (is_some (named_among (row ∷ rows) name)) none some)
first_free row rows name false e none rest = rw e (rest (rw e at none))

pub name_is_free : (rows : List CatalogRow) (name : List ℕ) → is_some (named_among rows name) ≡ false → list_any (λ (row : CatalogRow). bytes_eq row.name name) rows ≡ false
name_is_free [] name none = refl
name_is_free (row ∷ rows) name none = first_free row rows name (bytes_eq row.name name) refl none (name_is_free rows name)
