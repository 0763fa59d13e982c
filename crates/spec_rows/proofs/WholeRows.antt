-- The rows of a page are whole rows of its kind.
use Rattle.std.specs.Prelude.{◌≡◌, ℕ, ◌+◌, ◌-◌, ◌≤◌, ◌==◌, ◌&&◌, Bool, true, false, IsTrue, List, length, drop, nat_le, slice_index, if◌then◌else◌, refl}
use Rattle.std.proofs.Common.{arith, ap, sym, ◌∙◌, length-drop}
use Rattle.std.proofs.lemmas.Bool.{and_parts, and_from, eq-eqb, leb-true}
use Rattle.std.proofs.lemmas.List.{length-take-le}
use Rattle.spec_file.specs.declared.data.Kind.{Kind}
use Rattle.spec_file.specs.Image.{number_at}
use Rattle.spec_rows.specs.Rows.{is_data_status, is_leaf_row, is_index_row}
use Rattle.spec_rows.specs.Slots.{rows_end, has_index_rows, slot_at, row_size, row_end, page_row, fits_page}
use Rattle.spec_rows.proofs.PartLaws.{number_in_part, byte_in_part}
use Rattle.spec_rows.proofs.SlotLaws.{RowStands}

plus_zero : (n : ℕ) → n + 0 ≡ n
plus_zero n = omega arith

index_row_fits : (row : List ℕ) (status : ℕ) → (status == 6) ≡ true → slice_index row 0 ≡ status → length row ≡ 13 → is_index_row row ≡ true
index_row_fits row status test first size =
    and_from _ _ (ap (λ (s : ℕ). s == 6) first ∙ test) (eq-eqb (length row) 13 size)

leaf_row_fits : (kind : Kind) (row : List ℕ) (status said : ℕ) (whole : Bool) → (is_data_status kind status && whole && nat_le 11 said && nat_le said 1024) ≡ true
    → slice_index row 0 ≡ status → (11 ≤ said → number_at 2 1 row ≡ said) → length row ≡ said → is_leaf_row kind row ≡ true
leaf_row_fits kind row status said whole test first number size =
    let most = and_parts (is_data_status kind status && whole && nat_le 11 said) (nat_le said 1024) test in
    let least = and_parts (is_data_status kind status && whole) (nat_le 11 said) most.0 in
    let head = and_parts (is_data_status kind status) whole least.0 in
    and_from _ _ (ap (is_data_status kind) first ∙ head.0)
    (and_from _ _ (and_from _ _ (eq-eqb (number_at 2 1 row) (length row) (number (leb-true 11 said least.1) ∙ sym size))
    (ap (nat_le 11) size ∙ least.1))
    (ap (λ (n : ℕ). nat_le n 1024) size ∙ most.1))

pick : (b x y : Bool) → (b ≡ true → x ≡ true) → (b ≡ false → y ≡ true) → (if b then x else y) ≡ true
pick true x y first second = first refl
pick false x y first second = second refl

-- the row of a slot has the length that it says
pub row_length : (bytes : List ℕ) (i : ℕ) → row_end bytes i ≤ length bytes → length (page_row bytes i) ≡ row_size bytes i
row_length bytes i within =
    let size : row_end bytes i - slot_at bytes i ≡ row_size bytes i = omega arith in
    length-take-le (row_end bytes i - slot_at bytes i) (drop (slot_at bytes i) bytes) (omega (arith, length-drop (slot_at bytes i) bytes)) ∙ size

-- the row of a slot is one whole row that may stand on the page
pub row_fits : (kind : Kind) (bytes : List ℕ) (i : ℕ) → rows_end bytes ≤ length bytes → RowStands kind bytes i → IsTrue (fits_page kind bytes (page_row bytes i))
row_fits kind bytes i within stands =
    let at = slot_at bytes i in
    let row = page_row bytes i in
    let long = row_length bytes i (omega (arith, stands.within)) in
    let size : row_end bytes i - at ≡ row_size bytes i = omega arith in
    let first = byte_in_part 0 (row_end bytes i - at) at bytes (omega (arith, size, stands.least)) ∙ ap (slice_index bytes) (plus_zero at) in
    pick (has_index_rows bytes) (is_index_row row) (is_leaf_row kind row)
    (λ index.
    let whole : row_size bytes i ≡ 13 = rw index refl in
    index_row_fits row (slice_index bytes at) (rw index at stands.header) first (long ∙ whole))
    (λ leaf.
    let said : row_size bytes i ≡ number_at 2 (at + 1) bytes = rw leaf refl in
    leaf_row_fits kind row (slice_index bytes at) (number_at 2 (at + 1) bytes) _ (rw leaf at stands.header) first
    (λ enough. number_in_part 2 1 (row_end bytes i - at) at bytes (omega (arith, size, said, enough))) (long ∙ said))
