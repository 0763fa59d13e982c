-- Where no slot of a page has a fault, its rows stand on the page.
use Rattle.std.proofs.Common.{ℕ, ◌+◌, ◌*◌, ◌≤◌, IsTrue, List, arith}
use Rattle.std.proofs.lemmas.Bool.{eqb-true}
use Rattle.spec_file.specs.declared.data.Kind.{Kind}
use Rattle.spec_file.specs.Header.{header_of}
use Rattle.spec_rows.specs.Slots.{slot_count, rows_end, slot_at, has_row_header, rows_size}
use Rattle.spec_rows.specs.PageTest.{has_room, SlotsPass, HoldsRows}
use Rattle.spec_rows.proofs.SlotLaws.{says_size, row_stands, rows_room}
use Rattle.pg_slots.specs.Sizes.{SaysSize, RowsStand}

-- where a row header stands, all of what says the row's length does
pub header_says : (kind : Kind) (bytes : List ℕ) (at : ℕ) → rows_end bytes ≤ 8192 → IsTrue (has_row_header kind bytes at) → SaysSize bytes at
header_says kind bytes at end header leaf = omega (arith, says_size kind bytes at header leaf)

pub rows_stand : (kind : Kind) (bytes : List ℕ) → IsTrue (has_room (header_of bytes)) → SlotsPass kind bytes → RowsStand bytes
rows_stand kind bytes room slots =
    let all = rows_room (header_of bytes) room in
    let end : rows_end bytes ≤ 8192 = omega (arith, all.within) in
    record {
      few = all.few;
      says = λ i within. header_says kind bytes (slot_at bytes i) end (row_stands kind bytes i (slots i within)).header;
      ends = λ i within. omega (arith, (row_stands kind bytes i (slots i within)).within, end);
    }

pub holds_stand : (kind : Kind) (bytes : List ℕ) → HoldsRows kind bytes → RowsStand bytes
holds_stand kind bytes holds = rows_stand kind bytes holds.room holds.slots

-- a page hasn't more free bytes than it has room
pub free_within : (kind : Kind) (bytes : List ℕ) → HoldsRows kind bytes → (header_of bytes).free_count ≤ 8096
free_within kind bytes holds =
    let sum = eqb-true ((header_of bytes).free_count + rows_size bytes (slot_count bytes) + 2 * slot_count bytes) 8096 holds.free in
    omega (arith, sum)
