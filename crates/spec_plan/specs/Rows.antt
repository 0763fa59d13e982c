-- What a statement asks of a heap page, and the page with one row more (this project's own).
use Rattle.std.specs.Prelude.{ℕ, ◌+◌, ◌-◌, ◌*◌, ◌%◌, ◌==◌, ◌&&◌, ◌||◌, Bool, nat_le, if◌then◌else◌, is_none, Option, Some, None, List, ◌++◌, length, take, drop, replicate, flat_map, reverse, slice_range}
use Rattle.std.specs.List.{list_all, filter_map, range_with_len}
use Rattle.byteorder.specs.Endian.{little_bytes}
use Rattle.spec_file.specs.declared.data.Kind.TheVariants.{Heap}
use Rattle.spec_file.specs.Header.{header_of, header_version}
use Rattle.spec_rows.specs.Rows.{PageRow, DataRow, row_bytes, row_of}
use Rattle.spec_rows.specs.Slots.{slot_count, rows_end, slot_at, row_end, rows_size, page_row, page_rows}
use Rattle.spec_rows.specs.PageTest.{owner_fault, form_fault, slot_fault, has_free_count}

-- the rows of two slots don't overlap
abbrev pub are_rows_apart : List ℕ → ℕ → ℕ → Bool
are_rows_apart bytes i j = (i == j) || (nat_le (row_end bytes i) (slot_at bytes j) || nat_le (row_end bytes j) (slot_at bytes i))

-- page p passes the page test as a heap page of object o
unfoldable pub passes_page : ℕ → ℕ → List ℕ → Bool
passes_page p o bytes =
    is_none (owner_fault p o Heap (header_of bytes)) && (is_none (form_fault Heap (header_version bytes) (header_of bytes))
    && (list_all (λ i. is_none (slot_fault Heap bytes i)) (range_with_len 0 (slot_count bytes))
    && (list_all (λ i. list_all (are_rows_apart bytes i) (range_with_len 0 (slot_count bytes))) (range_with_len 0 (slot_count bytes))
    && has_free_count bytes)))

abbrev pub free_count : List ℕ → ℕ
free_count bytes = (header_of bytes).free_count

-- a row of so many bytes and its slot have room
abbrev pub has_room_for : List ℕ → ℕ → Bool
has_room_for bytes size = nat_le (size + 2) (free_count bytes)

-- a PFS byte with another fullness
abbrev pub with_fullness : ℕ → ℕ → ℕ
with_fullness byte fullness = byte - byte % 8 + fullness

-- the bytes of a heap's row
abbrev pub heap_row : ℕ → List ℕ → List ℕ
heap_row key payload = row_bytes (DataRow key payload)

-- the payload of a row that has this key
abbrev pub payload_with : ℕ → Option PageRow → Option (List ℕ)
payload_with key (Some (DataRow own payload)) = if own == key then Some payload else None
payload_with key other = None

-- the payloads of a page's rows that have this key, in the order of their slots
unfoldable pub payloads_of : ℕ → List ℕ → List (List ℕ)
payloads_of key bytes = filter_map (λ row. payload_with key (row_of row)) (page_rows bytes)

-- the header with these numbers of slots and of free bytes, and this end of the rows
abbrev pub counted_header : List ℕ → ℕ → ℕ → ℕ → List ℕ
counted_header bytes slots free end =
    take 20 bytes ++ (little_bytes 2 slots ++ (little_bytes 2 free ++ (little_bytes 2 end ++ slice_range bytes 26 96)))

-- the rows in slot order, one after another
abbrev pub rows_bytes : List ℕ → List ℕ
rows_bytes bytes = flat_map (page_row bytes) (range_with_len 0 (slot_count bytes))

-- the slots of rows that stand one after another from byte 96 on
abbrev pub slots_bytes : List ℕ → List ℕ
slots_bytes bytes = flat_map (λ i. little_bytes 2 (96 + rows_size bytes i)) (reverse (range_with_len 0 (slot_count bytes)))

-- the page compacted: its rows in slot order from byte 96, zeros from there to the slots
unfoldable pub compacted : List ℕ → List ℕ
compacted bytes =
    counted_header bytes (slot_count bytes) (free_count bytes) (96 + rows_size bytes (slot_count bytes))
    ++ (rows_bytes bytes ++ (replicate (8192 - 2 * slot_count bytes - (96 + length (rows_bytes bytes))) 0 ++ slots_bytes bytes))

-- a page of so many slots and free bytes, whose rows end at `end`, with a row put there and a slot for it behind
-- the others
unfoldable pub with_row_at : List ℕ → ℕ → ℕ → ℕ → List ℕ → List ℕ
with_row_at bytes slots free end row =
    counted_header bytes (slots + 1) (free - (length row + 2)) (end + length row)
    ++ (slice_range bytes 96 end ++ (row ++ (slice_range bytes (end + length row) (8190 - 2 * slots)
    ++ (little_bytes 2 end ++ drop (8192 - 2 * slots) bytes))))

-- the row stands before the slots as the rows stand
abbrev pub fits_behind : List ℕ → ℕ → Bool
fits_behind bytes size = nat_le (rows_end bytes + size + 2 * (slot_count bytes + 1)) 8192

-- the page with one row more, its last: it is compacted first where the row doesn't fit behind the others
abbrev pub with_row : List ℕ → List ℕ → List ℕ
with_row bytes row =
    if fits_behind bytes (length row) then with_row_at bytes (slot_count bytes) (free_count bytes) (rows_end bytes) row
    else with_row_at (compacted bytes) (slot_count bytes) (free_count bytes) (96 + rows_size bytes (slot_count bytes)) row
