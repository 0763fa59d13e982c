-- A page of a clustered table as a node: its number, its links and its rows as its bytes say them.
use Rattle.std.specs.Prelude.{ℕ, List, map, drop, if◌then◌else◌}
use Rattle.std.specs.List.{range_with_len}
use Rattle.spec_file.specs.Header.{header_of}
use Rattle.spec_file.specs.Image.{Image, page}
use Rattle.spec_rows.specs.Rows.{data_head, row_key}
use Rattle.spec_rows.specs.Slots.{slot_count, page_row, has_index_rows}
use Rattle.spec_tables.specs.Heads.{child_at}
use Rattle.spec_levels.specs.Levels.{Row, Node, Payload}
use Rattle.spec_levels.specs.Pages.{Page}

-- the row of a slot: on a leaf with its payload, on an index page with the page that it names
abbrev pub leaf_row : List ℕ → ℕ → Row Payload
leaf_row bytes slot = record { key = row_key (page_row bytes slot); value = drop data_head (page_row bytes slot) }

abbrev pub child_row : List ℕ → ℕ → Row ℕ
child_row bytes slot = record { key = row_key (page_row bytes slot); value = child_at bytes slot }

-- the page of this number as a node whose rows are read so
abbrev pub node_of : {V : Type 0} → (List ℕ → ℕ → Row V) → ℕ → List ℕ → Node V
node_of row number bytes = record {
  page = number;
  prev = (header_of bytes).prev.0;
  next = (header_of bytes).next.0;
  rows = map (row bytes) (range_with_len 0 (slot_count bytes));
}

-- the page of this number, with its level
abbrev pub page_read : ℕ → List ℕ → Page
page_read number bytes =
    if has_index_rows bytes then Page.IndexPage (header_of bytes).level (node_of child_row number bytes)
    else Page.LeafPage (node_of leaf_row number bytes)

-- pages of an image, by their numbers
abbrev pub pages_read : Image → List ℕ → List Page
pages_read image numbers = map (λ number. page_read number (page image number)) numbers
