-- Rows that are moved together.
use Rattle.std.specs.Prelude.{◌≡◌, ℕ, zero, suc, ◌+◌, ◌*◌, ◌<◌, ◌≤◌, IsTrue, List, length, slice_range}
use Rattle.std.proofs.Common.{arith, ap, sym, subst, ◌∙◌, inl, inr}
use Rattle.std.proofs.lemmas.Bool.{cases_order}
use Rattle.spec_file.specs.Header.{header_of}
use Rattle.spec_file.specs.declared.header.Header.{Header}
use Rattle.spec_file.specs.declared.data.Kind.{Kind}
use Rattle.spec_rows.specs.Slots.{slot_count, rows_end, row_size, row_end, page_row, page_rows, rows_size}
use Rattle.spec_rows.specs.PageTest as spec
use Rattle.spec_rows.specs.Changes.{IsCompacted}
use Rattle.spec_rows.proofs.SlotLaws.{row_stands, rows_room, rows_size_more}
use Rattle.spec_rows.proofs.PartLaws.{byte_stays_in}
use Rattle.spec_rows.proofs.WholeRows.{row_length, row_fits}
use Rattle.pg_slots.specs.Sizes.{RowsHaveRoom}
use Rattle.pg_slots.proofs.Stand.{rows_stand}
use Rattle.pg_slots.proofs.Arranged.{HasRow, has_row, Layout, layout_of, layout_size, layout_rows, holds_of}
use Rattle.pg_slots.proofs.Moved.{same_rows, fits_still, room_from, row_count, row_of_slot, parts}

none_below : (a : ℕ) → a ≤ 0 → a ≡ 0
none_below a below = omega arith

record Compacting (kind : Kind) (before now : List ℕ) : Type 0 where
  long : length before ≡ 8192
  holds : spec.HoldsRows kind before
  compacted : IsCompacted before now

pub rises : (bytes : List ℕ) (a b : ℕ) → a ≤ b → rows_size bytes a ≤ rows_size bytes b
rises bytes a zero below = omega (arith, ap (rows_size bytes) (none_below a below))
rises bytes a (suc b) below = elim (cases_order a (suc b)) [
  | inl same ↦ omega (arith, ap (rows_size bytes) same)
  | inr (inl less) ↦
      let next : suc b ≡ b + 1 = omega arith in
      omega (arith, rises bytes a b (omega (arith, less)), ap (rows_size bytes) next, rows_size_more bytes b)
  | inr (inr more) ↦ absurd (omega (arith, more))
]

compacted_new : (kind : Kind) (before now : List ℕ) → Compacting kind before now → (j : ℕ) → j < slot_count before → HasRow kind now j (page_row before j)
compacted_new kind before now g j within =
    let row = page_row before j in
    let room = rows_room (header_of before) g.holds.room in
    let stands = row_stands kind before j (g.holds.slots j within) in
    let size : length row ≡ row_size before j = row_length before j (omega (arith, g.long, room.within, stands.within)) in
    let same = same_rows before now _ _ _ g.compacted.header in
    let start = g.compacted.slots j within in
    let more = rows_size_more before j in
    let ends : rows_end now ≡ 96 + rows_size before (slot_count before) = ap (λ (h : Header). h.free_from) g.compacted.header in
    let stop : 96 + rows_size before j + length row ≡ 96 + rows_size before (j + 1) = omega (arith, size, more) in
    has_row kind now j row (fits_still kind before now row same (row_fits kind before j (omega (arith, g.long, room.within)) stands)) (omega (arith, start))
    (omega (arith, start, stop, ends, rises before (j + 1) (slot_count before) (omega arith)))
    (ap (λ (n : ℕ). slice_range now n (n + length row)) start ∙ ap (slice_range now (96 + rows_size before j)) stop ∙ g.compacted.rows j within)

compacted_count : (kind : Kind) (before now : List ℕ) → Compacting kind before now → slot_count now ≡ slot_count before
compacted_count kind before now g = ap (λ (h : Header). h.slots) g.compacted.header

compacted_stop : (kind : Kind) (before now : List ℕ) → Compacting kind before now → (j : ℕ) → j < slot_count before → row_end now j ≡ 96 + rows_size before (j + 1)
compacted_stop kind before now g j within =
    let room = rows_room (header_of before) g.holds.room in
    let size : length (page_row before j) ≡ row_size before j =
    row_length before j (omega (arith, g.long, room.within, (row_stands kind before j (g.holds.slots j within)).within)) in
    omega (arith, g.compacted.slots j within, (compacted_new kind before now g j within).size, size, rows_size_more before j)

compacted_layout : (kind : Kind) (before now : List ℕ) → Compacting kind before now → Layout kind now (page_rows before)
compacted_layout kind before now g =
    let count = compacted_count kind before now g in
    let rows = row_count before in
    record {
      count = omega (arith, count, rows);
      each = λ j within. subst (HasRow kind now j) (sym (row_of_slot before j (omega (arith, within, rows)))) (compacted_new kind before now g j (omega (arith, within, rows)));
      apart = λ j k j_in k_in other.
          let j_before : j < slot_count before = omega (arith, count) in
          let k_before : k < slot_count before = omega (arith, count) in
          elim (cases_order j k) [
            | inl same ↦ absurd (other same)
            | inr (inl below) ↦
                inl (omega (arith, compacted_stop kind before now g j j_before, g.compacted.slots k k_before, rises before (j + 1) k (omega (arith, below))))
            | inr (inr above) ↦
                inr (omega (arith, compacted_stop kind before now g k k_before, g.compacted.slots j j_before, rises before (k + 1) j (omega (arith, above))))
          ];
    }

compacted_all : (kind : Kind) (before now : List ℕ) → Compacting kind before now → spec.HoldsRows kind now × (page_rows now ≡ page_rows before)
compacted_all kind before now g =
    let header = g.compacted.header in
    let count = compacted_count kind before now g in
    let room = rows_room (header_of before) g.holds.room in
    let layout = compacted_layout kind before now g in
    let whole = parts kind before g.long g.holds in
    let size = layout_size kind before (page_rows before) (layout_of kind before g.long g.holds) in
    let free : (header_of now).free_count ≡ (header_of before).free_count = ap (λ (h : Header). h.free_count) header in
    let ends : rows_end now ≡ 96 + rows_size before (slot_count before) = ap (λ (h : Header). h.free_from) header in (
      holds_of kind now (page_rows before) layout
          (subst (λ (h : Header). IsTrue (spec.has_row_type kind h)) (sym header) g.holds.type)
          (byte_stays_in 0 20 0 before now g.compacted.front (omega arith) (omega arith) ∙ g.holds.version)
          (subst (λ (h : Header). IsTrue (spec.has_level h)) (sym header) g.holds.level)
          (room_from (header_of now) (record { few = omega (arith, count, room.few); from = omega (arith, ends); within = omega (arith, ends, count, whole, size) }))
          (subst (λ (h : Header). IsTrue (spec.has_no_ghosts h)) (sym header) g.holds.ghosts)
          (omega (arith, free, whole, count)),
      layout_rows kind now (page_rows before) layout,
    )

pub compacted_holds : (kind : Kind) (before now : List ℕ) → length before ≡ 8192 → spec.HoldsRows kind before → IsCompacted before now
    → spec.HoldsRows kind now × (page_rows now ≡ page_rows before)
compacted_holds kind before now long holds compacted = compacted_all kind before now (record { long = long; holds = holds; compacted = compacted })

-- there is room for the first rows, right behind the header
room_for : (kind : Kind) (bytes : List ℕ) (n : ℕ) → length bytes ≡ 8192 → spec.HoldsRows kind bytes → n ≤ slot_count bytes
    → 96 + rows_size bytes n + 2 * slot_count bytes ≤ 8192
room_for kind bytes n long holds within =
    let whole = parts kind bytes long holds in
    let size = layout_size kind bytes (page_rows bytes) (layout_of kind bytes long holds) in
    omega (arith, whole, size, rises bytes n (slot_count bytes) within)

pub rows_have_room : (kind : Kind) (bytes : List ℕ) → length bytes ≡ 8192 → spec.HoldsRows kind bytes → RowsHaveRoom bytes
rows_have_room kind bytes long holds = record {
  stand = rows_stand kind bytes holds.room holds.slots;
  room = λ n within. room_for kind bytes n long holds within;
}

-- the row of a slot, put where the rows before it end, ends where the next begins, before the slots
pub record RowEnds (bytes row : List ℕ) (slot at : ℕ) : Type 0 where
  pub next : at + length row ≡ 96 + rows_size bytes (slot + 1)
  pub within : at + length row + 2 * slot_count bytes ≤ 8192

pub row_ends : (bytes row : List ℕ) (slot at : ℕ) → length bytes ≡ 8192 → RowsHaveRoom bytes → slot < slot_count bytes
    → at ≡ 96 + rows_size bytes slot → row ≡ page_row bytes slot → RowEnds bytes row slot at
row_ends bytes row slot at long rows within start is =
    let size = row_length bytes slot (omega (arith, rows.stand.ends slot within, long)) in
    let same : length row ≡ row_size bytes slot = ap length is ∙ size in
    let more = rows_size_more bytes slot in
    let below = rows.room (slot + 1) (omega arith) in
    record { next = omega (arith, same, more); within = omega (arith, same, more, below) }
