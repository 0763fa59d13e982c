-- The rows of a node are those that the grammar reads on its page.
use Rattle.std.proofs.Common.{◌≡◌, ℕ, ◌==◌, true, false, List, drop, Some, None, sym, ap, ◌∙◌, ⊎_elim, arith}
use Rattle.std.specs.Prelude.{nat_lt}
use Rattle.std.proofs.lemmas.Bool.{cases_Bool, eqb-true, eqb-false, lt-ltb}
use Rattle.spec_file.specs.Header.{page_type}
use Rattle.spec_file.specs.Image.{page}
use Rattle.spec_rows.specs.Rows.{PageRow, DataRow, IndexRow, row_of, row_key, row_child}
use Rattle.spec_rows.specs.Slots.{slot_count, page_row, has_index_rows}
use Rattle.spec_rows.proofs.RowLaws.{data_from}
use Rattle.law_check.specs.Laws.{StandsOn}
use Rattle.law_check.proofs.RowReading.{key_is_read, child_is_read, data_read}
use Rattle.law_check.proofs.SlotReading.{slot_has_row}
use Rattle.law_trees.specs.Laws.{row_read, RowsAreRead}
use Rattle.law_trees.proofs.Heads.{picked, passed}

same_payload : (key n : ℕ) (payload rest : List ℕ) → Some (DataRow key payload) ≡ Some (DataRow n rest) → payload ≡ rest
same_payload key n payload rest same = cc

data_is : (bytes : List ℕ) (key : ℕ) (payload : List ℕ) → row_of bytes ≡ Some (DataRow key payload) → Some (DataRow key payload) ≡ Some (DataRow (row_key bytes) (drop 11 bytes))
data_is bytes key payload same =
    let rest = same_payload key _ payload (drop 11 bytes) (sym same ∙ data_read bytes (data_from bytes key payload same)) in
    ap (λ (k : ℕ). Some (DataRow k payload)) (sym (key_is_read bytes (DataRow key payload) same))
    ∙ ap (λ (p : List ℕ). Some (DataRow (row_key bytes) p)) rest

index_is : (bytes : List ℕ) (key child : ℕ) → row_of bytes ≡ Some (IndexRow key child) → Some (IndexRow key child) ≡ Some (IndexRow (row_key bytes) (row_child bytes))
index_is bytes key child same =
    ap (λ (k : ℕ). Some (IndexRow k child)) (sym (key_is_read bytes (IndexRow key child) same))
    ∙ ap (λ (c : ℕ). Some (IndexRow (row_key bytes) c)) (sym (child_is_read bytes key child same))

-- the row that the grammar reads in a slot, on a page of its type
read_is : (bytes : List ℕ) (slot : ℕ) (row : PageRow) → row_of (page_row bytes slot) ≡ Some row → StandsOn (page_type bytes) row → Some row ≡ Some (row_read bytes slot)
read_is bytes slot (DataRow key payload) same one =
    let at = page_row bytes slot in
    data_is at key payload same
    ∙ sym (ap (λ (r : PageRow). Some r) (passed (has_index_rows bytes) (IndexRow (row_key at) (row_child at)) (DataRow (row_key at) (drop 11 at)) (leaf (page_type bytes) one)))
  where
    leaf : (type : ℕ) → type ≡ 1 → (type == 2) ≡ false
    leaf type one = ⊎_elim (λ yes. let two : type ≡ 2 = eqb-true type 2 yes in absurd (omega (arith, one, two))) (λ no. no) (cases_Bool (type == 2))
read_is bytes slot (IndexRow key child) same two =
    let at = page_row bytes slot in
    index_is at key child same
    ∙ sym (ap (λ (r : PageRow). Some r) (picked (has_index_rows bytes) (IndexRow (row_key at) (row_child at)) (DataRow (row_key at) (drop 11 at)) (index (page_type bytes) two)))
  where
    index : (type : ℕ) → type ≡ 2 → (type == 2) ≡ true
    index type two = ⊎_elim (λ yes. yes) (λ no. absurd (eqb-false type 2 no two)) (cases_Bool (type == 2))

pub rows_are_read : RowsAreRead
rows_are_read g image row number slot seen long within =
    let bytes = page image number in
    let has = slot_has_row number row.id row.kind bytes slot long seen.passes within in
    let same = sym (picked (nat_lt slot (slot_count bytes)) (row_of (page_row bytes slot)) None (lt-ltb slot (slot_count bytes) within)) ∙ has.1 in
    same ∙ read_is bytes slot has.0 same has.2
