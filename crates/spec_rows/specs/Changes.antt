-- What a change of a page's rows makes of its bytes (this project's own). The rows as a list change with
-- it; what is said here is where the bytes stand.
use Rattle.std.specs.Prelude.{◌≡◌, ℕ, ◌+◌, ◌-◌, ◌*◌, ◌<◌, ◌≤◌, ◌==◌, List, length, replicate, slice_range, if◌then◌else◌}
use Rattle.spec_file.specs.Header.{header_of}
use Rattle.spec_file.specs.declared.header.Header.{Header}
use Rattle.spec_file.specs.declared.data.Kind.{Kind}
use Rattle.spec_file.specs.declared.sizes.TheConstants.{MAPS_START, PAGE_SIZE}
use Rattle.spec_rows.specs.PageTest.{PassesButRows, PassesTest}
use Rattle.spec_rows.specs.Slots.{slot_count, rows_end, slot_at, row_size, rows_size, page_row}

-- the header with other counts
abbrev pub with_counts : ℕ → ℕ → ℕ → Header → Header
with_counts slots free_count free_from h = record {
  page_type = h.page_type;
  level = h.level;
  page_id = h.page_id;
  object = h.object;
  prev = h.prev;
  next = h.next;
  slots = slots;
  free_count = free_count;
  free_from = free_from;
  ghosts = h.ghosts;
}

-- bytes a to b are as before
abbrev pub Stays : ℕ → ℕ → List ℕ → List ℕ → Type 0
Stays a b before now = slice_range now a b ≡ slice_range before a b

-- The rows stand right behind the header, in the order of their slots, with zeros behind them up to the slots.
pub record IsCompacted (before now : List ℕ) : Type 0 where
  pub long : length now ≡ length before
  pub header : header_of now
      ≡ with_counts (slot_count before) (header_of before).free_count (MAPS_START + rows_size before (slot_count before)) (header_of before)
  pub front : Stays 0 20 before now
  pub unused : Stays 26 MAPS_START before now
  pub slots : (i : ℕ) → i < slot_count before → slot_at now i ≡ MAPS_START + rows_size before i
  pub rows : (i : ℕ) → i < slot_count before
      → slice_range now (MAPS_START + rows_size before i) (MAPS_START + rows_size before (i + 1)) ≡ page_row before i
  pub zeros : slice_range now (MAPS_START + rows_size before (slot_count before)) (PAGE_SIZE - 2 * slot_count before)
      ≡ replicate (PAGE_SIZE - 2 * slot_count before - (MAPS_START + rows_size before (slot_count before))) 0

-- A row is put where the others end, and its slot moves the later ones by one.
pub record IsPlaced (i : ℕ) (row : List ℕ) (before now : List ℕ) : Type 0 where
  pub long : length now ≡ length before
  pub header : header_of now
      ≡ with_counts (slot_count before + 1) ((header_of before).free_count - (length row + 2)) (rows_end before + length row) (header_of before)
  pub front : Stays 0 20 before now
  pub others : Stays 26 (rows_end before) before now
  pub placed : slice_range now (rows_end before) (rows_end before + length row) ≡ row
  pub behind : Stays (rows_end before + length row) (PAGE_SIZE - 2 * (slot_count before + 1)) before now
  pub earlier : (j : ℕ) → j < i → slot_at now j ≡ slot_at before j
  pub here : slot_at now i ≡ rows_end before
  pub later : (j : ℕ) → i ≤ j → j < slot_count before → slot_at now (j + 1) ≡ slot_at before j

-- the row and its slot fit behind the rows
abbrev pub FitsBehind : List ℕ → List ℕ → Type 0
FitsBehind row before = rows_end before + length row + 2 * (slot_count before + 1) ≤ PAGE_SIZE

-- Insert: the page is compacted first where the row doesn't fit behind the others.
pub data IsInserted (i : ℕ) (row : List ℕ) (before now : List ℕ) : Type 0 where
  AtEnd : FitsBehind row before → IsPlaced i row before now → IsInserted i row before now
  Compacted : (middle : List ℕ) → (FitsBehind row before → ⊥) → IsCompacted before middle → IsPlaced i row middle now
      → IsInserted i row before now

-- Remove: later slots close up, the last entry becomes 0, and the row's bytes stay. Where no row is left,
-- rows begin right behind the header again.
pub record IsRemoved (i : ℕ) (before now : List ℕ) : Type 0 where
  pub long : length now ≡ length before
  pub header : header_of now
      ≡ with_counts (slot_count before - 1) ((header_of before).free_count + row_size before i + 2)
      (if slot_count before == 1 then MAPS_START else rows_end before) (header_of before)
  pub front : Stays 0 20 before now
  pub others : Stays 26 (PAGE_SIZE - 2 * slot_count before) before now
  pub earlier : (j : ℕ) → j < i → slot_at now j ≡ slot_at before j
  pub later : (j : ℕ) → i ≤ j → j + 1 < slot_count before → slot_at now j ≡ slot_at before (j + 1)
  pub cleared : slot_at now (slot_count before - 1) ≡ 0

-- Replace: remove, and insert at the same slot.
pub record IsReplaced (i : ℕ) (row : List ℕ) (before now : List ℕ) : Type 0 where
  pub middle : List ℕ
  pub removed : IsRemoved i before middle
  pub inserted : IsInserted i row middle now

-- what the page test asks beside rows is still met
abbrev pub KeepsTest : Kind → List ℕ → List ℕ → Type 0
KeepsTest kind before now = (p o : ℕ) → PassesButRows p o kind before → PassesButRows p o kind now

-- the page passes its test again, whether or not it had rows
abbrev pub MeetsTest : Kind → List ℕ → List ℕ → Type 0
MeetsTest kind before now = (p o : ℕ) → PassesButRows p o kind before → PassesTest p o kind now
