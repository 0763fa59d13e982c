-- What is known of the rows of a page, whichever its table's kind.
use Rattle.std.specs.Prelude.{◌≡◌, ℕ, ◌+◌, ◌*◌, ◌<◌, ◌≤◌, false, List}
use Rattle.spec_file.specs.declared.sizes.TheConstants.{MAPS_START, PAGE_SIZE}
use Rattle.spec_rows.specs.Slots.{slot_limit, slot_count, has_index_rows, slot_at, row_end, rows_size}

-- where rows say their own length, all of what says that of a row at this offset stands on the page
abbrev pub SaysSize : List ℕ → ℕ → Type 0
SaysSize bytes at = has_index_rows bytes ≡ false → at + 3 ≤ PAGE_SIZE

-- each row says its length on the page, and ends there
pub record RowsStand (bytes : List ℕ) : Type 0 where
  pub few : slot_count bytes ≤ slot_limit
  pub says : (i : ℕ) → i < slot_count bytes → SaysSize bytes (slot_at bytes i)
  pub ends : (i : ℕ) → i < slot_count bytes → row_end bytes i ≤ PAGE_SIZE

-- so they do, and moved together they have room before the slots
pub record RowsHaveRoom (bytes : List ℕ) : Type 0 where
  pub stand : RowsStand bytes
  pub room : (n : ℕ) → n ≤ slot_count bytes → MAPS_START + rows_size bytes n + 2 * slot_count bytes ≤ PAGE_SIZE
