-- A row put in behind the last of a page makes the page that a plan says.
use Rattle.std.proofs.Common.{◌≡◌, ℕ, ◌+◌, ◌-◌, ◌*◌, ◌≤◌, List, length, take, drop, inl, inr, refl, ap, sym, subst, ◌∙◌, arith}
use Rattle.std.specs.Prelude.{slice_range}
use Rattle.std.proofs.lemmas.Bool.{eqb-true, le-leb, lt-leb, cond-true, cond-false, cases_lt}
use Rattle.spec_file.specs.declared.header.Header.{Header}
use Rattle.spec_file.specs.declared.data.Kind.TheVariants.{Heap}
use Rattle.spec_file.specs.Header.{header_of}
use Rattle.spec_rows.specs.Slots.{slot_count, rows_end, slot_at, rows_size}
use Rattle.spec_rows.specs.PageTest.{HoldsRows}
use Rattle.spec_rows.proofs.SlotLaws.{rows_room}
use Rattle.spec_rows.proofs.PartLaws.{part_stays_in}
use Rattle.spec_rows.specs.Changes.{Stays, FitsBehind, IsCompacted, IsPlaced, IsInserted, AtEnd, Compacted}
use Rattle.spec_plan.specs.Rows.{free_count, rows_bytes, compacted, with_row_at, fits_behind, with_row}
use Rattle.spec_file.specs.Image.{AreBytes}
use Rattle.law_rows.proofs.Parts.{part_length, slots_spelled}
use Rattle.law_rows.proofs.Packed.{packed_parts, rows_spelled}
use Rattle.law_rows.proofs.Placed.{HasParts, placed_by_parts}

-- the page `before`, on which the row is put, has so many slots and free bytes, and its rows end at `end`
record HasCounts (before : List ℕ) (slots free end : ℕ) : Type 0 where
  count : slot_count before ≡ slots
  room : free_count before ≡ free
  last : rows_end before ≡ end

-- and, but for its slots, the bytes of the page `base`
record LooksLike (base before : List ℕ) (slots end : ℕ) : Type 0 where
  front : take 20 before ≡ take 20 base
  unused : Stays 26 96 base before
  rows : Stays 96 end base before
  behind : Stays end (8192 - 2 * slots) base before

placed_parts : (base before now : List ℕ) (slots free end : ℕ) (row : List ℕ) → HasCounts before slots free end → LooksLike base before slots end →
    96 ≤ end → end + length row + 2 * (slots + 1) ≤ 8192 → IsPlaced slots row before now → drop (8192 - 2 * slots) now ≡ drop (8192 - 2 * slots) base →
    HasParts base now slots free end row
placed_parts base before now slots free end row counts like low fits placed others =
    let size = length row in
    let stays = subst (λ (e : ℕ). Stays 26 e before now) counts.last placed.others in
    let behind = subst (λ (e : ℕ). Stays (e + size) (8192 - 2 * (slot_count before + 1)) before now) counts.last placed.behind in
    let behind' = subst (λ (s : ℕ). Stays (end + size) (8192 - 2 * (s + 1)) before now) counts.count behind in
    let last : 8192 - 2 * (slots + 1) ≡ 8190 - 2 * slots = omega (arith, fits) in
    record {
      front = placed.front ∙ like.front;
      count = ap (λ (h : Header). h.slots) placed.header ∙ ap (λ (s : ℕ). s + 1) counts.count;
      free_count = ap (λ (h : Header). h.free_count) placed.header ∙ ap (λ (f : ℕ). f - (size + 2)) counts.room;
      rows_end = ap (λ (h : Header). h.free_from) placed.header ∙ ap (λ (e : ℕ). e + size) counts.last;
      unused = part_stays_in 26 end 26 96 before now stays (omega arith) (omega arith) low ∙ like.unused;
      rows = part_stays_in 26 end 96 end before now stays (omega arith) low (omega arith) ∙ like.rows;
      placed = subst (λ (e : ℕ). slice_range now e (e + size) ≡ row) counts.last placed.placed;
      behind = subst (λ (k : ℕ). Stays (end + size) k before now) last behind'
          ∙ part_stays_in end (8192 - 2 * slots) (end + size) (8190 - 2 * slots) base before like.behind (omega arith) (omega (arith, fits)) (omega arith);
      here = subst (λ (e : ℕ). slot_at now slots ≡ e) counts.last placed.here;
      others = others;
    }

-- what the counts of a page say of its room
record Room (bytes : List ℕ) : Type 0 where
  low : 96 ≤ rows_end bytes
  high : rows_end bytes + 2 * slot_count bytes ≤ 8192
  free : free_count bytes + rows_size bytes (slot_count bytes) + 2 * slot_count bytes ≡ 8096

room_of : (bytes : List ℕ) → HoldsRows Heap bytes → Room bytes
room_of bytes holds =
    let room = rows_room (header_of bytes) holds.room in
    record {
      low = room.from;
      high = room.within;
      free = eqb-true (free_count bytes + rows_size bytes (slot_count bytes) + 2 * slot_count bytes) 8096 holds.free;
    }

placed_at_end : (old new row : List ℕ) → AreBytes old → AreBytes new → length old ≡ 8192 → Room old → FitsBehind row old → IsPlaced (slot_count old) row old new →
    new ≡ with_row_at old (slot_count old) (free_count old) (rows_end old) row
placed_at_end old new row small small' long room fits placed =
    let count = slot_count old in
    let end = rows_end old in
    let low = room.low in
    let few : 2 * count ≤ 8192 = omega (arith, fits) in
    let long' : length new ≡ 8192 = placed.long ∙ long in
    let same = slots_spelled new (slot_at old) count small' long' few placed.earlier ∙ sym (slots_spelled old (slot_at old) count small long few (λ j below. refl)) in
    placed_by_parts old new count (free_count old) end row small' long' low fits
    (placed_parts old old new count (free_count old) end row (record { count = refl; room = refl; last = refl }) (record { front = refl; unused = refl; rows = refl; behind = refl }) low fits placed same)

placed_in_packed : (old middle new row : List ℕ) → AreBytes new → length old ≡ 8192 → Room old → length row + 2 ≤ free_count old → IsCompacted old middle →
    IsPlaced (slot_count old) row middle new → new ≡ with_row_at (compacted old) (slot_count old) (free_count old) (96 + rows_size old (slot_count old)) row
placed_in_packed old middle new row small long room enough packed placed =
    let count = slot_count old in
    let size = rows_size old count in
    let end = 96 + size in
    let free = room.free in
    let within : end + length row + 2 * (count + 1) ≤ 8192 = omega (arith, free, enough) in
    let middle_long : length middle ≡ 8192 = packed.long ∙ long in
    let new_long : length new ≡ 8192 = placed.long ∙ middle_long in
    let rows : slice_range middle 96 end ≡ rows_bytes old = rows_spelled old middle count packed (omega arith) in
    let rows_long : length (rows_bytes old) ≡ size = sym (ap length rows) ∙ part_length 96 end middle (omega arith) (omega (arith, middle_long, within)) ∙ omega arith in
    let parts = packed_parts old size long rows_long (omega (arith, within)) in
    let counts : HasCounts middle count (free_count old) end = record {
      count = ap (λ (h : Header). h.slots) packed.header;
      room = ap (λ (h : Header). h.free_count) packed.header;
      last = ap (λ (h : Header). h.free_from) packed.header;
    } in
    let like : LooksLike (compacted old) middle count end = record {
      front = packed.front ∙ sym parts.front;
      unused = packed.unused ∙ sym parts.unused;
      rows = rows ∙ sym parts.rows;
      behind = packed.zeros ∙ sym parts.zeros;
    } in
    let slots = slots_spelled new (λ j. 96 + rows_size old j) count small new_long (omega (arith, within)) (λ j below. placed.earlier j below ∙ packed.slots j below) in
    placed_by_parts (compacted old) new count (free_count old) end row small new_long (omega arith) within
    (placed_parts (compacted old) middle new count (free_count old) end row counts like (omega arith) within placed (slots ∙ sym parts.slots))

-- the law
pub row_inserted : (old new row : List ℕ) → AreBytes old → AreBytes new → length old ≡ 8192 → HoldsRows Heap old → length row + 2 ≤ free_count old →
    IsInserted (slot_count old) row old new → new ≡ with_row old row
row_inserted old new row small small' long holds enough (AtEnd fits placed) =
    placed_at_end old new row small small' long (room_of old holds) fits placed
    ∙ sym (cond-true (fits_behind old (length row)) _ _ (le-leb (rows_end old + length row + 2 * (slot_count old + 1)) 8192 fits))
row_inserted old new row small small' long holds enough (Compacted middle full packed placed) =
    placed_in_packed old middle new row small' long (room_of old holds) enough packed placed
    ∙ sym (cond-false (fits_behind old (length row)) _ _ (elim (cases_lt 8192 (rows_end old + length row + 2 * (slot_count old + 1))) [
      | inl over ↦ lt-leb (rows_end old + length row + 2 * (slot_count old + 1)) 8192 over
      | inr fits ↦ absurd (full fits)
    ]))
