-- The slot array and the rows of a page (this project's own). Slot 0 stands in the page's last two bytes,
-- each later slot before it. An index page has index rows, any other rows of the form of data rows.
use Rattle.std.specs.Prelude.{ℕ, ◌+◌, ◌-◌, ◌*◌, ◌==◌, ◌&&◌, Bool, List, map, nat_le, nat_lt, slice_index, slice_range, if◌then◌else◌}
use Rattle.std.specs.List.{range_with_len, sum_by}
use Rattle.spec_file.specs.declared.data.Kind.{Kind}
use Rattle.spec_file.specs.declared.page_type.TheConstants.{INDEX_TYPE}
use Rattle.spec_file.specs.declared.sizes.TheConstants.{MAPS_START}
use Rattle.spec_file.specs.Image.{number_at}
use Rattle.spec_file.specs.Header.{header_of, page_type}
use Rattle.spec_rows.specs.declared.sizes.TheConstants.{SLOT_LIMIT}
use Rattle.spec_rows.specs.Rows.{index_status, data_head, row_limit, index_length, is_data_status, is_leaf_row, is_index_row}

-- the most slots for which a page has room
abbrev pub slot_limit : ℕ
slot_limit = SLOT_LIMIT

abbrev pub slot_count : List ℕ → ℕ
slot_count bytes = (header_of bytes).slots

-- where the bytes end that rows may use
abbrev pub rows_end : List ℕ → ℕ
rows_end bytes = (header_of bytes).free_from

abbrev pub has_index_rows : List ℕ → Bool
has_index_rows bytes = page_type bytes == INDEX_TYPE

-- the offset that slot i gives
abbrev pub slot_at : List ℕ → ℕ → ℕ
slot_at bytes i = number_at 2 (8190 - 2 * i) bytes

-- a row header that the page may have stands at an offset, whole before the end of the rows
abbrev pub has_row_header : Kind → List ℕ → ℕ → Bool
has_row_header kind bytes at =
    if has_index_rows bytes then slice_index bytes at == index_status
    else (is_data_status kind (slice_index bytes at) && nat_le (at + 3) (rows_end bytes)
    && nat_le data_head (number_at 2 (at + 1) bytes) && nat_le (number_at 2 (at + 1) bytes) row_limit)

-- a row begins at the offset of slot i
abbrev pub begins_row : Kind → List ℕ → ℕ → Bool
begins_row kind bytes i =
    nat_le MAPS_START (slot_at bytes i) && nat_lt (slot_at bytes i) (rows_end bytes) && has_row_header kind bytes (slot_at bytes i)

-- the length that the row at an offset says it has
abbrev pub size_at : List ℕ → ℕ → ℕ
size_at bytes at = if has_index_rows bytes then index_length else number_at 2 (at + 1) bytes

abbrev pub row_size : List ℕ → ℕ → ℕ
row_size bytes i = size_at bytes (slot_at bytes i)

-- where the row of slot i ends
abbrev pub row_end : List ℕ → ℕ → ℕ
row_end bytes i = slot_at bytes i + row_size bytes i

-- the bytes of the row of slot i
abbrev pub page_row : List ℕ → ℕ → List ℕ
page_row bytes i = slice_range bytes (slot_at bytes i) (row_end bytes i)

-- the rows of a page, in the order of their slots
abbrev pub page_rows : List ℕ → List (List ℕ)
page_rows bytes = map (page_row bytes) (range_with_len 0 (slot_count bytes))

-- how many bytes the rows of the first n slots have
abbrev pub rows_size : List ℕ → ℕ → ℕ
rows_size bytes n = sum_by (row_size bytes) (range_with_len 0 n)

-- a row that may stand on the page, of a table of this kind
abbrev pub fits_page : Kind → List ℕ → List ℕ → Bool
fits_page kind bytes row = if has_index_rows bytes then is_index_row row else is_leaf_row kind row
