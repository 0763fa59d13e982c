-- What single puts make of a page's bytes.
use Rattle.std.specs.Prelude.{◌≡◌, ◌≢◌, ℕ, ◌+◌, ◌-◌, ◌*◌, ◌<◌, ◌≤◌, List, length, take, drop, slice_range}
use Rattle.spec_rows.specs.Slots.{slot_at, rows_size, page_row}

-- one slot gets an offset
pub record PutsSlot (slot at : ℕ) (before now : List ℕ) : Type 0 where
  pub here : slot_at now slot ≡ at
  pub others : (j : ℕ) → j < 4050 → j ≢ slot → slot_at now j ≡ slot_at before j
  pub front : take (8190 - 2 * slot) now ≡ take (8190 - 2 * slot) before

-- a row's bytes stand at an offset
pub record PutsRow (at : ℕ) (row before now : List ℕ) : Type 0 where
  pub front : take at now ≡ take at before
  pub here : slice_range now at (at + length row) ≡ row
  pub back : drop (at + length row) now ≡ drop (at + length row) before

-- of so many slots, i and the later ones move on by one
pub record OpensSlot (i count at : ℕ) (before now : List ℕ) : Type 0 where
  pub earlier : (j : ℕ) → j < i → slot_at now j ≡ slot_at before j
  pub here : slot_at now i ≡ at
  pub later : (j : ℕ) → i ≤ j → j < count → slot_at now (j + 1) ≡ slot_at before j
  pub front : take (8190 - 2 * count) now ≡ take (8190 - 2 * count) before

-- of so many slots, those behind i move back by one
pub record ClosesSlot (i count : ℕ) (before now : List ℕ) : Type 0 where
  pub earlier : (j : ℕ) → j < i → slot_at now j ≡ slot_at before j
  pub later : (j : ℕ) → i ≤ j → j + 1 < count → slot_at now j ≡ slot_at before (j + 1)
  pub cleared : slot_at now (count - 1) ≡ 0
  pub front : take (8192 - 2 * count) now ≡ take (8192 - 2 * count) before

-- a row of another page and its slot are put where the rows before it end
pub record MovesRow (slot at end : ℕ) (row before now : List ℕ) : Type 0 where
  pub front : take at now ≡ take at before
  pub placed : slice_range now at end ≡ row
  pub here : slot_at now slot ≡ at
  pub earlier : (j : ℕ) → j < slot → slot_at now j ≡ slot_at before j

-- the first n rows stand from 96 in the order of their slots
pub record MovesRows (n : ℕ) (before now : List ℕ) : Type 0 where
  pub front : take 96 now ≡ take 96 before
  pub slots : (i : ℕ) → i < n → slot_at now i ≡ 96 + rows_size before i
  pub rows : (i : ℕ) → i < n → slice_range now (96 + rows_size before i) (96 + rows_size before (i + 1)) ≡ page_row before i
