-- What it means of a slot that it has no fault.
use Rattle.std.specs.Prelude.{◌≡◌, ℕ, ◌+◌, ◌*◌, ◌<◌, ◌≤◌, ◌&&◌, Bool, true, false, not, IsTrue, List, nat_le, nat_lt, slice_index, if◌then◌else◌, Some, None, refl}
use Rattle.std.specs.List.{range_with_len, sum_by}
use Rattle.std.proofs.Common.{arith, ap, sym, ◌∙◌}
use Rattle.std.proofs.lemmas.Bool.{and_parts, leb-true, ltb-true, ltb-false}
use Rattle.std.proofs.lemmas.List.{map-id}
use Rattle.std.proofs.lemmas.List.FromFn.{sum_by-map-range_with_len_more}
use Rattle.spec_file.specs.declared.data.Kind.{Kind}
use Rattle.spec_file.specs.declared.header.Header.{Header}
use Rattle.spec_rows.specs.declared.fault.SlotFault.{SlotFault}
use Rattle.spec_file.specs.Image.{number_at}
use Rattle.spec_rows.specs.Rows.{data_head, row_limit, is_data_status}
use Rattle.spec_rows.specs.Slots.{slot_limit, rows_end, has_index_rows, slot_at, size_at, has_row_header, begins_row, row_size, row_end, rows_size}
use Rattle.spec_rows.specs.PageTest.{fault, slot_fault, has_room}

-- a row stands at the offset of slot i, whole before the end of the rows
pub record RowStands (kind : Kind) (bytes : List ℕ) (i : ℕ) : Type 0 where
  pub from : 96 ≤ slot_at bytes i
  pub below : slot_at bytes i < rows_end bytes
  pub header : IsTrue (has_row_header kind bytes (slot_at bytes i))
  pub within : row_end bytes i ≤ rows_end bytes
  pub least : 0 < row_size bytes i
  pub most : row_size bytes i ≤ row_limit

-- the length is one of a row of the page's kind
sizes : (index : Bool) (status : Bool) (whole : Bool) (n : ℕ)
    → (if index then status else (whole && nat_le data_head n && nat_le n row_limit)) ≡ true
    → (0 < (if index then 13 else n)) × ((if index then 13 else n) ≤ row_limit)
sizes true status whole n test = (omega arith, omega arith)
sizes false status whole n test =
    let outer = and_parts (whole && nat_le data_head n) (nat_le n row_limit) test in
    let inner = and_parts whole (nat_le data_head n) outer.0 in
    let least = leb-true data_head n inner.1 in
    let most = leb-true n row_limit outer.1 in
    (omega arith, omega arith)

-- where rows say their own length, all of what says that of a row stands before the end of the rows
pub says_size : (kind : Kind) (bytes : List ℕ) (at : ℕ) → IsTrue (has_row_header kind bytes at) → has_index_rows bytes ≡ false → at + 3 ≤ rows_end bytes
says_size kind bytes at test leaf =
    let status = is_data_status kind (slice_index bytes at) in
    let whole = nat_le (at + 3) (rows_end bytes) in
    let said = number_at 2 (at + 1) bytes in
    let outer = and_parts (status && whole && nat_le data_head said) (nat_le said row_limit) (rw leaf at test) in
    let inner = and_parts (status && whole) (nat_le data_head said) outer.0 in
    leb-true (at + 3) (rows_end bytes) (and_parts status whole inner.0).1

-- the length that a row header says is that of some row
pub size_said : (kind : Kind) (bytes : List ℕ) (at : ℕ) → IsTrue (has_row_header kind bytes at) → (0 < size_at bytes at) × (size_at bytes at ≤ row_limit)
size_said kind bytes at test = sizes (has_index_rows bytes) _ _ _ test

-- neither of two tests fails
none_fails : (b t : Bool) (x y : SlotFault) → (if not b then Some x else (if t then Some y else None)) ≡ None → (b ≡ true) × (t ≡ false)
none_fails true true x y same = absurd (cc)
none_fails true false x y same = (refl, refl)
none_fails false t x y same = absurd (cc)

pub row_stands : (kind : Kind) (bytes : List ℕ) (i : ℕ) → slot_fault kind bytes i ≡ None → RowStands kind bytes i
row_stands kind bytes i none =
    let tests = none_fails (begins_row kind bytes i) (nat_lt (rows_end bytes) (row_end bytes i)) (fault 8941 i (slot_at bytes i)) (fault 8943 i (row_end bytes i)) none in
    let outer = and_parts (nat_le 96 (slot_at bytes i) && nat_lt (slot_at bytes i) (rows_end bytes)) (has_row_header kind bytes (slot_at bytes i)) tests.0 in
    let inner = and_parts (nat_le 96 (slot_at bytes i)) (nat_lt (slot_at bytes i) (rows_end bytes)) outer.0 in
    let size = size_said kind bytes (slot_at bytes i) outer.1 in
    record {
      from = leb-true 96 (slot_at bytes i) inner.0;
      below = ltb-true (slot_at bytes i) (rows_end bytes) inner.1;
      header = outer.1;
      within = ltb-false (rows_end bytes) (row_end bytes i) tests.1;
      least = size.0;
      most = size.1;
    }

pub rows_size_more : (bytes : List ℕ) (n : ℕ) → rows_size bytes (n + 1) ≡ rows_size bytes n + row_size bytes n
rows_size_more bytes n =
    let size = row_size bytes in
    let whole = sum_by-map-range_with_len_more size (λ i. i) 0 n n (omega arith) in
    ap (sum_by size) (sym (map-id (range_with_len 0 (n + 1)))) ∙ whole ∙ ap (λ (l : List ℕ). sum_by size l + size n) (map-id (range_with_len 0 n))

-- where the rows may stand
pub record RowsRoom (h : Header) : Type 0 where
  pub few : h.slots ≤ slot_limit
  pub from : 96 ≤ h.free_from
  pub within : h.free_from + 2 * h.slots ≤ 8192

pub rows_room : (h : Header) → IsTrue (has_room h) → RowsRoom h
rows_room h test =
    let outer = and_parts (nat_le h.slots slot_limit && nat_le 96 h.free_from) (nat_le (h.free_from + 2 * h.slots) 8192) test in
    let inner = and_parts (nat_le h.slots slot_limit) (nat_le 96 h.free_from) outer.0 in
    record {
      few = leb-true h.slots slot_limit inner.0;
      from = leb-true 96 h.free_from inner.1;
      within = leb-true (h.free_from + 2 * h.slots) 8192 outer.1;
    }
