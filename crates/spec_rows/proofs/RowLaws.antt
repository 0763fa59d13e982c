-- A row that is written is read again, and what is read as a row is written so.
use Rattle.std.specs.Prelude.{◌≡◌, ℕ, zero, suc, ◌+◌, ◌/◌, ◌%◌, ◌^◌, ◌<◌, ◌≤◌, ◌==◌, ◌&&◌, Bool, true, false, List, [], ◌∷◌, ◌++◌, length, take, drop, nat_le, slice_index, if◌then◌else◌, Some, None, refl}
use Rattle.std.proofs.Common.{arith, ap, sym, ◌∙◌, length-drop}
use Rattle.std.specs.Int.{byte_at, bytes_low_first}
use Rattle.std.proofs.lemmas.List.{take-append-drop, drop-drop, drop_all, get_or-drop}
use Rattle.std.proofs.Math.Seq.{drop-cons}
use Rattle.std.proofs.Math.Nat.{div-one, div-div-eq-div-mul, pow-suc}
use Rattle.std.proofs.lemmas.Bool.{eq-eqb, eqb-true, le-leb, leb-true, and_from, and_parts}
use Rattle.byteorder.specs.Endian.{little_bytes, little_number, little_from}
use Rattle.byteorder.specs.Numbers.{little_number-reads_back}
use Rattle.spec_file.specs.declared.data.Kind.{Kind}
use Rattle.spec_file.specs.declared.data.Kind.TheVariants.{Heap, Clustered}
use Rattle.spec_file.specs.Image.{AreBytes, number_at}
use Rattle.spec_rows.specs.Rows.{PageRow, DataRow, IndexRow, Fits, row_bytes, row_of, has_data_form, is_data_row, is_leaf_row, is_index_row}

data_length : (key : ℕ) (payload : List ℕ) → length (row_bytes (DataRow key payload)) ≡ 11 + length payload
unfolding row_bytes
data_length key payload = omega arith

data_key : (key : ℕ) (payload : List ℕ) → key < 2 ^ 64 → number_at 8 3 (row_bytes (DataRow key payload)) ≡ key
unfolding row_bytes number_at
data_key key payload fits = little_number-reads_back 8 key payload fits

data_size : (key : ℕ) (payload : List ℕ) → 11 + length payload ≤ 1024 → number_at 2 1 (row_bytes (DataRow key payload)) ≡ 11 + length payload
unfolding row_bytes number_at
data_size key payload fits = little_number-reads_back 2 (11 + length payload) (little_bytes 8 key ++ payload) (omega arith)

data_payload : (key : ℕ) (payload : List ℕ) → drop 11 (row_bytes (DataRow key payload)) ≡ payload
unfolding row_bytes
data_payload key payload = refl

data_status_is : (key : ℕ) (payload : List ℕ) → slice_index (row_bytes (DataRow key payload)) 0 ≡ 16
unfolding row_bytes
data_status_is key payload = refl

index_key : (key child : ℕ) → key < 2 ^ 64 → number_at 8 1 (row_bytes (IndexRow key child)) ≡ key
unfolding row_bytes number_at
index_key key child fits = little_number-reads_back 8 key (little_bytes 4 child) fits

index_child : (key child : ℕ) → child < 2 ^ 32 → number_at 4 9 (row_bytes (IndexRow key child)) ≡ child
unfolding row_bytes number_at
index_child key child fits = little_number-reads_back 4 child [] fits

index_is_whole : (key child : ℕ) → is_index_row (row_bytes (IndexRow key child)) ≡ true
unfolding row_bytes
index_is_whole key child = refl

index_is_no_data : (key child : ℕ) → is_data_row (row_bytes (IndexRow key child)) ≡ false
unfolding row_bytes
index_is_no_data key child = refl

data_is_whole : (key : ℕ) (payload : List ℕ) → 11 + length payload ≤ 1024 → is_data_row (row_bytes (DataRow key payload)) ≡ true
data_is_whole key payload fits =
    let bytes = row_bytes (DataRow key payload) in
    let size = data_length key payload in
    and_from _ _ (eq-eqb (slice_index bytes 0) 16 (data_status_is key payload))
    (and_from _ _ (and_from _ _ (eq-eqb (number_at 2 1 bytes) (length bytes) (data_size key payload fits ∙ sym size))
    (le-leb 11 (length bytes) (omega arith)))
    (le-leb (length bytes) 1024 (omega arith)))

pub reads_back : (row : PageRow) → Fits row → row_of (row_bytes row) ≡ Some row
reads_back (DataRow key payload) fits =
    rw (data_is_whole key payload fits.1, data_key key payload fits.0, data_payload key payload) refl
reads_back (IndexRow key child) fits =
    rw (index_is_no_data key child, index_is_whole key child, index_key key child fits.0, index_child key child fits.1) refl

byte_at-pow : (k x : ℕ) → byte_at k x ≡ x / 256 ^ k % 256
byte_at-pow zero x = ap (λ (y : ℕ). y % 256) (sym (div-one x))
byte_at-pow (suc k) x = refl

-- the bytes of the number that n bytes are read as are those bytes
spells : (n i j y : ℕ) (xs : List ℕ) → y / 256 ^ j ≡ little_from i n xs → AreBytes xs → i + n ≤ length xs
    → bytes_low_first j n y ≡ take n (drop i xs)
spells zero i j y xs same small within = refl
spells (suc n) i j y xs same small within =
    let here = small i in
    let low : byte_at j y ≡ slice_index xs i = byte_at-pow j y ∙ omega (arith, same, here) in
    let next : y / 256 ^ suc j ≡ little_from (suc i) n xs =
    ap (λ (p : ℕ). y / p) (pow-suc 256 j) ∙ sym (div-div-eq-div-mul y (256 ^ j) 256) ∙ omega (arith, same, here) in
    let rest = spells n (suc i) (suc j) y xs next small (omega arith) in
    ap (λ (b : ℕ). b ∷ bytes_low_first (suc j) n y) low ∙ ap (λ (l : List ℕ). slice_index xs i ∷ l) rest
    ∙ ap (take (suc n)) (sym (drop-cons xs i 0 (omega arith)))

small_behind : (at : ℕ) (bytes : List ℕ) → AreBytes bytes → AreBytes (drop at bytes)
small_behind at bytes small k = rw (get_or-drop at bytes k 0) (small (at + k))

-- the bytes of a number read at a place are those at the place
pub spelled_at : (n at : ℕ) (bytes : List ℕ) → AreBytes bytes → at + n ≤ length bytes
    → little_bytes n (number_at n at bytes) ≡ take n (drop at bytes)
unfolding number_at
spelled_at n at bytes small within =
    spells n 0 0 (little_number n (drop at bytes)) (drop at bytes) (div-one (little_number n (drop at bytes)))
    (small_behind at bytes small) (omega (arith, length-drop at bytes))

-- a part and what stands behind it are what stands from the part
pub join : (n at k : ℕ) (bytes : List ℕ) → at + n ≡ k → take n (drop at bytes) ++ drop k bytes ≡ drop at bytes
join n at k bytes here =
    ap (λ (i : ℕ). take n (drop at bytes) ++ drop i bytes) (sym here) ∙ ap (λ (l : List ℕ). take n (drop at bytes) ++ l) (sym (drop-drop n at bytes))
    ∙ take-append-drop n (drop at bytes)

data_parts : (key size : ℕ) (payload : List ℕ)
    → 16 ∷ little_bytes 2 size ++ little_bytes 8 key ++ payload ≡ 16 ∷ (little_bytes 2 size ++ (little_bytes 8 key ++ payload))
data_parts key size payload = refl

index_parts : (key child : ℕ) → 6 ∷ little_bytes 8 key ++ little_bytes 4 child ≡ 6 ∷ (little_bytes 8 key ++ (little_bytes 4 child ++ []))
index_parts key child = refl

-- bytes begin with their first
first_byte : (bytes : List ℕ) (b : ℕ) → 0 < length bytes → slice_index bytes 0 ≡ b → b ∷ drop 1 bytes ≡ bytes
first_byte bytes b some is = ap (λ (x : ℕ). x ∷ drop 1 bytes) (sym is) ∙ sym (drop-cons bytes 0 0 some)

-- what the form of a data row says of its length
pub record DataForm (bytes : List ℕ) : Type 0 where
  pub said : number_at 2 1 bytes ≡ length bytes
  pub least : 11 ≤ length bytes
  pub most : length bytes ≤ 1024

pub data_form : (bytes : List ℕ) → has_data_form bytes ≡ true → DataForm bytes
data_form bytes test =
    let most = and_parts ((number_at 2 1 bytes == length bytes) && nat_le 11 (length bytes)) (nat_le (length bytes) 1024) test in
    let least = and_parts (number_at 2 1 bytes == length bytes) (nat_le 11 (length bytes)) most.0 in
    record {
      said = eqb-true (number_at 2 1 bytes) (length bytes) least.0;
      least = leb-true 11 (length bytes) least.1;
      most = leb-true (length bytes) 1024 most.1;
    }

-- on a data page of today's kinds of tables each row is a data row
pub leaf_is_data : (kind : Kind) (bytes : List ℕ) → is_leaf_row kind bytes ≡ true → is_data_row bytes ≡ true
leaf_is_data Heap bytes test = test
leaf_is_data Clustered bytes test = test

pub data_is_leaf : (kind : Kind) (bytes : List ℕ) → is_data_row bytes ≡ true → is_leaf_row kind bytes ≡ true
data_is_leaf Heap bytes test = test
data_is_leaf Clustered bytes test = test

pub data_spelled : (bytes : List ℕ) → AreBytes bytes → is_data_row bytes ≡ true
    → row_bytes (DataRow (number_at 8 3 bytes) (drop 11 bytes)) ≡ bytes
unfolding row_bytes
data_spelled bytes small test =
    let head = and_parts (slice_index bytes 0 == 16) (has_data_form bytes) test in
    let form = data_form bytes head.1 in
    let enough = form.least in
    let said = form.said in
    let size : 11 + length (drop 11 bytes) ≡ number_at 2 1 bytes = omega (arith, length-drop 11 bytes, said) in
    let key = number_at 8 3 bytes in
    ap (λ (n : ℕ). 16 ∷ little_bytes 2 n ++ little_bytes 8 key ++ drop 11 bytes) size
    ∙ data_parts key (number_at 2 1 bytes) (drop 11 bytes)
    ∙ ap (λ (l : List ℕ). 16 ∷ (l ++ (little_bytes 8 key ++ drop 11 bytes))) (spelled_at 2 1 bytes small (omega arith))
    ∙ ap (λ (l : List ℕ). 16 ∷ (take 2 (drop 1 bytes) ++ (l ++ drop 11 bytes))) (spelled_at 8 3 bytes small (omega arith))
    ∙ ap (λ (l : List ℕ). 16 ∷ (take 2 (drop 1 bytes) ++ l)) (join 8 3 11 bytes refl)
    ∙ ap (λ (l : List ℕ). 16 ∷ l) (join 2 1 3 bytes refl)
    ∙ first_byte bytes 16 (omega arith) (eqb-true (slice_index bytes 0) 16 head.0)

pub index_spelled : (bytes : List ℕ) → AreBytes bytes → is_index_row bytes ≡ true
    → row_bytes (IndexRow (number_at 8 1 bytes) (number_at 4 9 bytes)) ≡ bytes
unfolding row_bytes
index_spelled bytes small test =
    let head = and_parts (slice_index bytes 0 == 6) (length bytes == 13) test in
    let size : length bytes ≡ 13 = eqb-true (length bytes) 13 head.1 in
    let key = number_at 8 1 bytes in
    let child = number_at 4 9 bytes in
    let none : [] ≡ drop 13 bytes = sym (drop_all 13 bytes (omega arith)) in
    index_parts key child
    ∙ ap (λ (l : List ℕ). 6 ∷ (little_bytes 8 key ++ (little_bytes 4 child ++ l))) none
    ∙ ap (λ (l : List ℕ). 6 ∷ (l ++ (little_bytes 4 child ++ drop 13 bytes))) (spelled_at 8 1 bytes small (omega arith))
    ∙ ap (λ (l : List ℕ). 6 ∷ (take 8 (drop 1 bytes) ++ (l ++ drop 13 bytes))) (spelled_at 4 9 bytes small (omega arith))
    ∙ ap (λ (l : List ℕ). 6 ∷ (take 8 (drop 1 bytes) ++ l)) (join 4 9 13 bytes refl)
    ∙ ap (λ (l : List ℕ). 6 ∷ l) (join 8 1 9 bytes refl)
    ∙ first_byte bytes 6 (omega arith) (eqb-true (slice_index bytes 0) 6 head.0)

row_spelled : (bytes : List ℕ) (row : PageRow) (d i : Bool) → AreBytes bytes
    → is_data_row bytes ≡ d → is_index_row bytes ≡ i
    → (if d then Some (DataRow (number_at 8 3 bytes) (drop 11 bytes)) else (if i then Some (IndexRow (number_at 8 1 bytes) (number_at 4 9 bytes)) else None)) ≡ Some row
    → row_bytes row ≡ bytes
row_spelled bytes row true i small d_is i_is same =
    let is : DataRow (number_at 8 3 bytes) (drop 11 bytes) ≡ row = cc in
    ap row_bytes (sym is) ∙ data_spelled bytes small d_is
row_spelled bytes row false true small d_is i_is same =
    let is : IndexRow (number_at 8 1 bytes) (number_at 4 9 bytes) ≡ row = cc in
    ap row_bytes (sym is) ∙ index_spelled bytes small i_is
row_spelled bytes row false false small d_is i_is same = absurd (cc)

-- what is read as a row are the bytes of that row
pub spelled : (bytes : List ℕ) (row : PageRow) → AreBytes bytes → row_of bytes ≡ Some row → row_bytes row ≡ bytes
spelled bytes row small same = row_spelled bytes row (is_data_row bytes) (is_index_row bytes) small refl refl same

-- bytes that are read as no row are no row's
pub no_row : (bytes : List ℕ) → row_of bytes ≡ None → (row : PageRow) → Fits row → row_bytes row ≡ bytes → ⊥
no_row bytes none row fits same =
    let some : row_of bytes ≡ Some row = ap row_of (sym same) ∙ reads_back row fits in
    cc

data_of : (d i : Bool) (key n m c : ℕ) (payload rest : List ℕ)
    → (if d then Some (DataRow n rest) else (if i then Some (IndexRow m c) else None)) ≡ Some (DataRow key payload) → d ≡ true
data_of true i key n m c payload rest same = refl
data_of false true key n m c payload rest same = absurd (cc)
data_of false false key n m c payload rest same = absurd (cc)

-- bytes that are read as a data row are one whole data row
pub data_from : (bytes : List ℕ) (key : ℕ) (payload : List ℕ) → row_of bytes ≡ Some (DataRow key payload) → is_data_row bytes ≡ true
data_from bytes key payload same = data_of (is_data_row bytes) (is_index_row bytes) key _ _ _ payload _ same

index_of : (d i : Bool) (key child n m c : ℕ) (rest : List ℕ)
    → (if d then Some (DataRow n rest) else (if i then Some (IndexRow m c) else None)) ≡ Some (IndexRow key child) → i ≡ true
index_of true i key child n m c rest same = absurd (cc)
index_of false true key child n m c rest same = refl
index_of false false key child n m c rest same = absurd (cc)

-- bytes that are read as an index row are one whole index row
pub index_from : (bytes : List ℕ) (key child : ℕ) → row_of bytes ≡ Some (IndexRow key child) → is_index_row bytes ≡ true
index_from bytes key child same = index_of (is_data_row bytes) (is_index_row bytes) key child _ _ _ _ same
