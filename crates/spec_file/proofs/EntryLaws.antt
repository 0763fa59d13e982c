-- The bytes of an entry are read back as its object, and page 9 with another entry has all others as before.
use Rattle.std.proofs.Common.{◌≡◌, ◌≢◌, refl, ℕ, zero, suc, ◌+◌, ◌-◌, ◌*◌, ◌^◌, ◌<◌, ◌≤◌, ◌==◌, Bool, true, false, IsTrue, List, [], ◌∷◌, ◌++◌, length, take, drop, replicate, ap, sym, ◌∙◌, arith, length-drop, length-append, append_assoc, inl, inr}
use Rattle.std.specs.Prelude.{slice_index, slice_range, ◌&&◌, not, nat_le}
use Rattle.std.proofs.lemmas.Bool.{and_parts, false≢true, eqb-true, leb-true, cases_lt}
use Rattle.std.proofs.lemmas.List.{length-replicate, drop_at, take_at, drop-drop, length-take-le}
use Rattle.std.proofs.lemmas.Slice.{between_is, between-put_mid, take-put_mid_below, drop-put_mid}
use borrow.Rule.Slice.PartMut.{put_mid}
use Rattle.byteorder.specs.Endian.{little_bytes, little_number}
use Rattle.byteorder.specs.Numbers.{little_number-reads_back}
use Rattle.spec_file.specs.declared.data.Kind.{Kind}
use Rattle.spec_file.specs.declared.data.Kind.TheVariants.{Heap, Clustered}
use Rattle.spec_file.specs.Image.{number_at}
use Rattle.spec_file.specs.Catalog.{entry_at, entry_id, entry_name, is_row, is_zeros, has_kind, has_name}
use Rattle.spec_file.specs.CatalogRows.{CatalogRow, kind_of, row_of_entry}
use Rattle.spec_file.specs.CatalogBytes.{kind_byte, entry_bytes, with_entry}

-- the entry of heap `t`, id 1, IAM page 8
entry_vector : entry_bytes (record { id = 1; kind = Heap; name = 116 ∷ []; first_iam = 8; root = 0 })
    ≡ 1 ∷ 0 ∷ 0 ∷ 0 ∷ 1 ∷ 1 ∷ 116 ∷ 0 ∷ 0 ∷ 0 ∷ 0 ∷ 0 ∷ 0 ∷ 0 ∷ 0 ∷ 0 ∷ 0 ∷ 0 ∷ 0 ∷ 0 ∷ 0 ∷ 0 ∷ 0 ∷ 0
    ∷ 8 ∷ 0 ∷ 0 ∷ 0 ∷ 0 ∷ 0 ∷ 0 ∷ 0 ∷ 0 ∷ 0 ∷ 0 ∷ 0 ∷ 0 ∷ 0 ∷ 0 ∷ 0 ∷ []
unfolding entry_bytes
entry_vector = refl

-- ---- what an entry says

-- what a row has before its numbers fits its entry
pub record Fits (row : CatalogRow) : Type 0 where
  pub id : row.id < 256 ^ 4
  pub name : length row.name ≤ 18
  pub first_iam : row.first_iam < 256 ^ 4
  pub root : row.root < 256 ^ 4

behind_name : (name rest : List ℕ) → length name ≤ 18 → drop 18 (name ++ (replicate (18 - length name) 0 ++ rest)) ≡ rest
behind_name name rest fits =
    let pad = replicate (18 - length name) 0 in
    let size : length (name ++ pad) ≡ 18 = omega (arith, length-append name pad, length-replicate {A = ℕ} (18 - length name) 0) in
    ap (drop 18) (sym (append_assoc name pad rest)) ∙ drop_at (name ++ pad) rest 18 size

kind_back : (kind : Kind) → kind_of (kind_byte kind) ≡ kind
kind_back Heap = refl
kind_back Clustered = refl

numbers_behind : CatalogRow → List ℕ
numbers_behind row = little_bytes 4 row.first_iam ++ (little_bytes 4 row.root ++ replicate 8 0)

drop_24 : (row : CatalogRow) → length row.name ≤ 18 → drop 24 (entry_bytes row) ≡ numbers_behind row
unfolding entry_bytes numbers_behind
drop_24 row fits = behind_name row.name (numbers_behind row) fits

drop_28 : (row : CatalogRow) → length row.name ≤ 18 → drop 28 (entry_bytes row) ≡ little_bytes 4 row.root ++ replicate 8 0
unfolding numbers_behind
drop_28 row fits = sym (drop-drop 4 24 (entry_bytes row)) ∙ ap (drop 4) (drop_24 row fits) ∙ refl

pub id_back : (row : CatalogRow) → row.id < 256 ^ 4 → entry_id (entry_bytes row) ≡ row.id
unfolding entry_bytes number_at
id_back row fits = little_number-reads_back 4 row.id (drop 4 (entry_bytes row)) fits

kind_at : (row : CatalogRow) → slice_index (entry_bytes row) 4 ≡ kind_byte row.kind
unfolding entry_bytes
kind_at row = refl

pub name_length_back : (row : CatalogRow) → slice_index (entry_bytes row) 5 ≡ length row.name
unfolding entry_bytes
name_length_back row = refl

pub name_back : (row : CatalogRow) → entry_name (entry_bytes row) ≡ row.name
unfolding entry_bytes
name_back row = take_at row.name _ (6 + length row.name - 6) (omega arith)

iam_back : (row : CatalogRow) → length row.name ≤ 18 → row.first_iam < 256 ^ 4 → number_at 4 24 (entry_bytes row) ≡ row.first_iam
unfolding number_at numbers_behind
iam_back row short fits = ap (little_number 4) (drop_24 row short) ∙ little_number-reads_back 4 row.first_iam (little_bytes 4 row.root ++ replicate 8 0) fits

root_back : (row : CatalogRow) → length row.name ≤ 18 → row.root < 256 ^ 4 → number_at 4 28 (entry_bytes row) ≡ row.root
unfolding number_at
root_back row short fits = ap (little_number 4) (drop_28 row short) ∙ little_number-reads_back 4 row.root (replicate 8 0) fits

pub row_back : (row : CatalogRow) → Fits row → row_of_entry (entry_bytes row) ≡ row
row_back row fits = λ i. record {
  id = id_back row fits.id i;
  kind = (ap kind_of (kind_at row) ∙ kind_back row.kind) i;
  name = name_back row i;
  first_iam = iam_back row fits.name fits.first_iam i;
  root = root_back row fits.name fits.root i;
}

sixteen : (row : CatalogRow) → length (numbers_behind row) ≡ 16
unfolding numbers_behind
sixteen row = refl

pub entry_size : (row : CatalogRow) → length row.name ≤ 18 → length (entry_bytes row) ≡ 40
unfolding entry_bytes
entry_size row fits =
    let behind : length (drop 24 (entry_bytes row)) ≡ 16 = ap length (drop_24 row fits) ∙ sixteen row in
    omega (arith, length-drop 24 (entry_bytes row), behind)

-- ---- an entry that is put

-- the part of a page that is put
pub as_put : (i : ℕ) (entry boot : List ℕ) → with_entry i entry boot ≡ put_mid (96 + 40 * i) 40 boot entry
unfolding with_entry
as_put i entry boot =
    let there : 136 + 40 * i ≡ 96 + 40 * i + 40 = omega arith in
    ap (λ rest. take (96 + 40 * i) boot ++ (entry ++ rest)) (ap (λ n. drop n boot) there ∙ sym (drop-drop 40 (96 + 40 * i) boot))

pub entry_here : (i : ℕ) (entry boot : List ℕ) → 136 + 40 * i ≤ length boot → length entry ≡ 40 → entry_at (with_entry i entry boot) i ≡ entry
unfolding entry_at
entry_here i entry boot within size =
    ap (λ page. slice_range page (96 + 40 * i) (136 + 40 * i)) (as_put i entry boot)
    ∙ between-put_mid (96 + 40 * i) 40 boot entry (136 + 40 * i) (omega (arith, within)) (omega (arith, size))

pub entry_else : (i j : ℕ) (entry boot : List ℕ) → j ≢ i → 136 + 40 * i ≤ length boot → length entry ≡ 40 → entry_at (with_entry i entry boot) j ≡ entry_at boot j
unfolding entry_at
entry_else i j entry boot other within size = ap (λ page. slice_range page (96 + 40 * j) (136 + 40 * j)) (as_put i entry boot) ∙ elim (cases_lt j i) [
  | inl low ↦
      between_is (put_mid (96 + 40 * i) 40 boot entry) (96 + 40 * j) (136 + 40 * j)
      ∙ ap (drop (96 + 40 * j)) (take-put_mid_below (96 + 40 * i) 40 boot entry (136 + 40 * j) (omega (arith, low)) (omega (arith, within)))
      ∙ sym (between_is boot (96 + 40 * j) (136 + 40 * j))
  | inr high ↦
      ap (take (136 + 40 * j - (96 + 40 * j)))
      (drop-put_mid (96 + 40 * i) 40 boot entry (96 + 40 * j) (omega (arith, high, other)) (omega (arith, within)) size)
]

pub length_with_entry : (i : ℕ) (entry boot : List ℕ) → 136 + 40 * i ≤ length boot → length entry ≡ 40 → length (with_entry i entry boot) ≡ length boot
unfolding with_entry
length_with_entry i entry boot within size =
    omega (arith, length-append (take (96 + 40 * i) boot) (entry ++ drop (136 + 40 * i) boot), length-append entry (drop (136 + 40 * i) boot), length-take-le (96 + 40 * i) boot (omega (arith, within)), length-drop (136 + 40 * i) boot, within, size)

-- ---- an empty entry isn't a row

zero_at : (bytes : List ℕ) (i : ℕ) → is_zeros bytes ≡ true → slice_index bytes i ≡ 0
zero_at [] zero none = refl
zero_at [] (suc i) none = refl
zero_at (b ∷ rest) zero none = eqb-true b 0 (and_parts (b == 0) (is_zeros rest) none).0
zero_at (b ∷ rest) (suc i) none = zero_at rest i (and_parts (b == 0) (is_zeros rest) none).1

pub no_id : (entry : List ℕ) → is_zeros entry ≡ true → entry_id entry ≡ 0
unfolding number_at
no_id entry none = rw (zero_at entry 0 none, zero_at entry 1 none, zero_at entry 2 none, zero_at entry 3 none) refl

first_holds : (a b c d : Bool) → (a && b && c && d) ≡ true → a ≡ true
first_holds true b c d h = refl
first_holds false b c d h = h

third_holds : (a b c d : Bool) → (a && b && c && d) ≡ true → c ≡ true
third_holds true true true d h = refl
third_holds true true false d h = h
third_holds true false c d h = absurd (false≢true h)
third_holds false b c d h = absurd (false≢true h)

named : (row : CatalogRow) (l : ℕ) → l ≡ length row.name → (b : Bool) → (nat_le l 16 && b) ≡ true → length row.name ≤ 18
named row l same b h = let few = leb-true l 16 (and_parts (nat_le l 16) b h).0 in omega (arith, few, same)

-- the name of a row is short
pub row_name_fits : (row : CatalogRow) → IsTrue (is_row (entry_bytes row)) → length row.name ≤ 18
row_name_fits row h =
    let entry = entry_bytes row in
    let good = third_holds (not (entry_id entry == 0)) (has_kind entry) (has_name entry) (is_zeros (slice_range entry 32 40)) h in
    named row (slice_index entry 5) (name_length_back row) _ (and_parts _ (is_zeros (slice_range entry (6 + slice_index entry 5) 24)) good).0

used_by : (entry : List ℕ) → IsTrue (is_row entry) → (b : Bool) → is_zeros entry ≡ b → is_zeros entry ≡ false
used_by entry row false e = e
used_by entry row true e =
    let some = first_holds (not (entry_id entry == 0)) (has_kind entry) (has_name entry) (is_zeros (slice_range entry 32 40)) row in
    absurd (false≢true (rw (no_id entry e) at some))

pub row_used : (entry : List ℕ) → IsTrue (is_row entry) → is_zeros entry ≡ false
row_used entry row = used_by entry row (is_zeros entry) refl
