-- Rows whose bytes stay, under slots that may be others.
use Rattle.std.specs.Prelude.{◌≡◌, ◌≢◌, ◌⊎◌, ℕ, ◌+◌, ◌*◌, ◌<◌, ◌≤◌, ◌==◌, IsTrue, List, [], length, slice_range}
use Rattle.std.specs.List.{sum_by}
use Rattle.std.proofs.Common.{arith, ap, ◌∙◌, inl, inr, get_or}
use Rattle.std.proofs.lemmas.Bool.{and_from, le-leb, eqb-true}
use Rattle.std.proofs.lemmas.List.FromFn.{length-map-range_with_len, get_or-map-range_with_len}
use Rattle.spec_file.specs.declared.data.Kind.{Kind}
use Rattle.spec_file.specs.Header.{header_of}
use Rattle.spec_file.specs.declared.header.Header.{Header}
use Rattle.spec_rows.specs.Slots.{slot_limit, slot_count, rows_end, has_index_rows, slot_at, row_size, row_end, page_row, page_rows, rows_size, fits_page}
use Rattle.spec_rows.specs.PageTest as spec
use Rattle.spec_rows.specs.Changes.{with_counts, Stays}
use Rattle.spec_rows.proofs.SlotLaws.{RowsRoom, row_stands, rows_room}
use Rattle.spec_rows.proofs.ApartLaws.{AreApart}
use Rattle.spec_rows.proofs.PartLaws.{part_stays_in}
use Rattle.spec_rows.proofs.WholeRows.{row_length, row_fits}
use Rattle.pg_slots.proofs.Arranged.{HasRow, has_row, layout_of, layout_size}

-- the page has index rows as before, or others as before
pub same_rows : (before now : List ℕ) (a b c : ℕ) → header_of now ≡ with_counts a b c (header_of before) → has_index_rows now ≡ has_index_rows before
same_rows before now a b c header = ap (λ (h : Header). h.page_type == 2) header

pub fits_still : (kind : Kind) (before now row : List ℕ) → has_index_rows now ≡ has_index_rows before → IsTrue (fits_page kind before row) → IsTrue (fits_page kind now row)
fits_still kind before now row same fits = rw same fits

-- a row whose bytes stay, under a slot that may be another
pub moved : (kind : Kind) (before now : List ℕ) (j from : ℕ) → length before ≡ 8192 → spec.HoldsRows kind before → from < slot_count before
    → has_index_rows now ≡ has_index_rows before → slot_at now j ≡ slot_at before from → rows_end before ≤ rows_end now
    → Stays 26 (rows_end before) before now → HasRow kind now j (page_row before from)
moved kind before now j from long holds within same start ends stays =
    let room = rows_room (header_of before) holds.room in
    let stands = row_stands kind before from (holds.slots from within) in
    let layout = layout_of kind before long holds in
    let size : length (page_row before from) ≡ row_size before from = row_length before from (omega (arith, long, room.within, stands.within)) in
    let fits = row_fits kind before from (omega (arith, long, room.within)) stands in
    let here : Stays (slot_at before from) (row_end before from) before now =
    part_stays_in 26 (rows_end before) (slot_at before from) (row_end before from) before now stays (omega (arith, stands.from)) (omega arith) stands.within in
    has_row kind now j (page_row before from) (fits_still kind before now (page_row before from) same fits) (omega (arith, start, stands.from))
    (omega (arith, start, size, stands.within, ends))
    (ap (λ (n : ℕ). slice_range now n (n + length (page_row before from))) start
    ∙ ap (λ (n : ℕ). slice_range now (slot_at before from) (slot_at before from + n)) size ∙ here)

-- where a row stood before
pub record Came (before now : List ℕ) (j : ℕ) : Type 0 where
  pub from : ℕ
  pub within : from < slot_count before
  pub start : slot_at now j ≡ slot_at before from
  pub stop : row_end now j ≡ row_end before from

unfoldable pub came : (kind : Kind) (before now : List ℕ) (j from : ℕ) → length before ≡ 8192 → (holds : spec.HoldsRows kind before) → from < slot_count before
    → slot_at now j ≡ slot_at before from → HasRow kind now j (page_row before from) → Came before now j
came kind before now j from long holds within start has =
    let room = rows_room (header_of before) holds.room in
    let size : length (page_row before from) ≡ row_size before from = row_length before from (omega (arith, long, room.within, (row_stands kind before from (holds.slots from within)).within)) in
    let same : row_size now j ≡ row_size before from = has.size ∙ size in
    record { from = from; within = within; start = start; stop = omega (arith, start, same) }

-- rows that came from two slots still stand apart
pub apart_still : (before now : List ℕ) (j k : ℕ) → AreApart before → (a : Came before now j) → (b : Came before now k) → a.from ≢ b.from
    → (row_end now j ≤ slot_at now k) ⊎ (row_end now k ≤ slot_at now j)
apart_still before now j k apart a b other = elim (apart a.from b.from a.within b.within other) [
  | inl first ↦ inl (omega (arith, first, a.stop, b.start))
  | inr second ↦ inr (omega (arith, second, b.stop, a.start))
]

pub room_from : (h : Header) → RowsRoom h → IsTrue (spec.has_room h)
room_from h room =
    and_from _ _ (and_from _ _ (le-leb h.slots slot_limit room.few) (le-leb 96 h.free_from room.from)) (le-leb (h.free_from + 2 * h.slots) 8192 room.within)

pub row_count : (bytes : List ℕ) → length (page_rows bytes) ≡ slot_count bytes
row_count bytes = length-map-range_with_len (page_row bytes) 0 (slot_count bytes)

pub row_of_slot : (bytes : List ℕ) (j : ℕ) → j < slot_count bytes → get_or (page_rows bytes) j [] ≡ page_row bytes j
row_of_slot bytes j within = get_or-map-range_with_len (page_row bytes) 0 (slot_count bytes) j j [] within (omega arith)

-- what is free, used by rows, and used by slots
pub parts : (kind : Kind) (bytes : List ℕ) → length bytes ≡ 8192 → spec.HoldsRows kind bytes
    → (header_of bytes).free_count + sum_by length (page_rows bytes) + 2 * slot_count bytes ≡ 8096
parts kind bytes long holds =
    let size = layout_size kind bytes (page_rows bytes) (layout_of kind bytes long holds) in
    let whole = eqb-true ((header_of bytes).free_count + rows_size bytes (slot_count bytes) + 2 * slot_count bytes) 8096 holds.free in
    omega (arith, size, whole)
