-- What a page says of itself and of its rows, for the rules of trees.
use Rattle.std.specs.Prelude.{ℕ, ◌+◌, ◌-◌, ◌==◌, nat_lt, List, Option, Some, None, if◌then◌else◌}
use Rattle.spec_file.specs.Header.{header_of}
use Rattle.spec_rows.specs.Rows.{row_key, row_child}
use Rattle.spec_rows.specs.Slots.{slot_count, page_row, has_index_rows}
use Rattle.spec_tree.specs.declared.known.PageHead.{PageHead}
use Rattle.spec_tree.specs.declared.known.Link.{Link}
use Rattle.spec_tree.specs.declared.known.IndexRow.{IndexRow}

-- the key of the row of slot i, where the page has that slot
abbrev pub key_at : List ℕ → ℕ → Option ℕ
key_at bytes i = if nat_lt i (slot_count bytes) then Some (row_key (page_row bytes i)) else None

-- the key of the last row
abbrev pub last_key : List ℕ → Option ℕ
last_key bytes = if slot_count bytes == 0 then None else key_at bytes (slot_count bytes - 1)

-- the page that the index row of slot i names
abbrev pub child_at : List ℕ → ℕ → ℕ
child_at bytes i = row_child (page_row bytes i)

-- the page that the last row names, where the rows name pages
abbrev pub last_child : List ℕ → ℕ
last_child bytes = if has_index_rows bytes then child_at bytes (slot_count bytes - 1) else 0

-- what page p of object o says of itself
abbrev pub head_of : ℕ → ℕ → List ℕ → PageHead
head_of o p bytes = record {
  object = record { 0 = o };
  page = record { 0 = p };
  level = (header_of bytes).level;
  prev = (header_of bytes).prev;
  next = (header_of bytes).next;
  first = key_at bytes 0;
  last = last_key bytes;
  last_child = record { 0 = last_child bytes };
}

-- which page it names as next
abbrev pub link_of : PageHead → Link
link_of s = record { object = s.object; page = s.page; next = s.next }

-- the page that the slot before slot i names; 0 for slot 0
abbrev pub child_before : List ℕ → ℕ → ℕ
child_before bytes i = if i == 0 then 0 else child_at bytes (i - 1)

-- the index row of slot i on page p of object o
abbrev pub index_row : ℕ → ℕ → List ℕ → ℕ → IndexRow
index_row o p bytes i = record {
  object = record { 0 = o };
  parent = record { 0 = p };
  slot = i;
  level = (header_of bytes).level;
  key = row_key (page_row bytes i);
  next_key = key_at bytes (i + 1);
  child = record { 0 = child_at bytes i };
  before = record { 0 = child_before bytes i };
  parent_prev = (header_of bytes).prev;
  parent_next = (header_of bytes).next;
}

-- how many index rows a page has
abbrev pub index_rows : List ℕ → ℕ
index_rows bytes = if has_index_rows bytes then slot_count bytes else 0
