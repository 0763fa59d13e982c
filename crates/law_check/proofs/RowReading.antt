-- The key and the child that the rules read from the bytes of a row are those of the row.
use Rattle.std.proofs.Common.{◌≡◌, ℕ, ◌==◌, Bool, true, false, List, length, drop, slice_index, Some, None, refl, sym, ◌∙◌, arith}
use Rattle.std.specs.Prelude.{if◌then◌else◌}
use Rattle.std.proofs.lemmas.Bool.{and_parts, eqb-true, ne_eqb, both_ways, false_from_ne_true}
use Rattle.spec_file.specs.Image.{number_at}
use Rattle.spec_rows.specs.Rows.{DataRow, IndexRow, row_of, has_data_form, is_data_row, is_index_row}
use Rattle.spec_rows.proofs.RowLaws.{data_from, index_from}
use Rattle.law_check.specs.Laws.{KeyIsRead, ChildIsRead}

-- a data row begins with its status, and so does an index row
data_begins : (bytes : List ℕ) → is_data_row bytes ≡ true → (slice_index bytes 0 == 16) ≡ true
data_begins bytes test = (and_parts (slice_index bytes 0 == 16) (has_data_form bytes) test).0

index_begins : (bytes : List ℕ) → is_index_row bytes ≡ true → (slice_index bytes 0 == 16) ≡ false
index_begins bytes test =
    let head = and_parts (slice_index bytes 0 == 6) (length bytes == 13) test in
    let six : slice_index bytes 0 ≡ 6 = eqb-true (slice_index bytes 0) 6 head.0 in
    ne_eqb (slice_index bytes 0) 16 (λ e. omega (arith, six, e))

no_data : (bytes : List ℕ) → is_index_row bytes ≡ true → is_data_row bytes ≡ false
no_data bytes test = false_from_ne_true (is_data_row bytes) (λ leaf. both_ways (slice_index bytes 0 == 16) (index_begins bytes test) (data_begins bytes leaf))

pub picked : {X : Type 0} (b : Bool) (x y : X) → b ≡ true → (if b then x else y) ≡ x
picked true x y is = refl
picked false x y is = absurd (cc)

pub passed : {X : Type 0} (b : Bool) (x y : X) → b ≡ false → (if b then x else y) ≡ y
passed false x y is = refl
passed true x y is = absurd (cc)

data_key_is : (key n : ℕ) (payload rest : List ℕ) → Some (DataRow n rest) ≡ Some (DataRow key payload) → n ≡ key
data_key_is key n payload rest same = cc

index_parts_are : (key child n c : ℕ) → Some (IndexRow n c) ≡ Some (IndexRow key child) → (n ≡ key) × (c ≡ child)
index_parts_are key child n c same = (cc, cc)

data_number : (bytes : List ℕ) (key : ℕ) (payload : List ℕ) → row_of bytes ≡ Some (DataRow key payload) → number_at 8 3 bytes ≡ key
data_number bytes key payload same =
    let test = data_from bytes key payload same in
    data_key_is key (number_at 8 3 bytes) payload (drop 11 bytes) (sym (picked (is_data_row bytes) (Some (DataRow (number_at 8 3 bytes) (drop 11 bytes))) _ test) ∙ same)

index_numbers : (bytes : List ℕ) (key child : ℕ) → row_of bytes ≡ Some (IndexRow key child) → (number_at 8 1 bytes ≡ key) × (number_at 4 9 bytes ≡ child)
index_numbers bytes key child same =
    let test = index_from bytes key child same in
    index_parts_are key child (number_at 8 1 bytes) (number_at 4 9 bytes)
    (sym (picked (is_index_row bytes) (Some (IndexRow (number_at 8 1 bytes) (number_at 4 9 bytes))) None test) ∙ sym (passed (is_data_row bytes) _ _ (no_data bytes test)) ∙ same)

pub key_is_read : KeyIsRead
key_is_read bytes (DataRow key payload) same =
    picked (slice_index bytes 0 == 16) (number_at 8 3 bytes) (number_at 8 1 bytes) (data_begins bytes (data_from bytes key payload same)) ∙ data_number bytes key payload same
key_is_read bytes (IndexRow key child) same =
    passed (slice_index bytes 0 == 16) (number_at 8 3 bytes) (number_at 8 1 bytes) (index_begins bytes (index_from bytes key child same)) ∙ (index_numbers bytes key child same).0

pub child_is_read : ChildIsRead
child_is_read bytes key child same = (index_numbers bytes key child same).1

-- what is read as an index row's or a data row's bytes is that row
pub data_read : (row : List ℕ) → is_data_row row ≡ true → row_of row ≡ Some (DataRow (number_at 8 3 row) (drop 11 row))
data_read row test = picked (is_data_row row) _ _ test

pub index_read : (row : List ℕ) → is_index_row row ≡ true → row_of row ≡ Some (IndexRow (number_at 8 1 row) (number_at 4 9 row))
index_read row test = passed (is_data_row row) _ _ (no_data row test) ∙ picked (is_index_row row) _ None test
