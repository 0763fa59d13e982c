-- An entry of the catalog is written, or emptied.
use Rattle.std.specs.Prelude.{◌≡◌, ◌≢◌, ℕ, ◌<◌, true, false, IsTrue, List}
use Rattle.spec_file.specs.Catalog.{entry_count, entry_at, entry_id, entry_name, is_zeros, is_row, IsUsed}
use Rattle.spec_steps.specs.Writes.{SaysSame}

-- entry i of page 9 has these bytes, the others stay
pub record IsEntrySet (i : ℕ) (entry old new : List ℕ) : Type 0 where
  pub within : i < entry_count
  pub here : entry_at new i ≡ entry
  pub others : (j : ℕ) → j ≢ i → entry_at new j ≡ entry_at old j
  pub header : SaysSame old new

-- an empty entry gets an object whose id and name no other has
pub record AddsEntry (i : ℕ) (entry old new : List ℕ) : Type 0 where
  pub set : IsEntrySet i entry old new
  pub was_empty : is_zeros (entry_at old i) ≡ true
  pub used : is_zeros entry ≡ false
  pub form : IsTrue (is_row entry)
  pub id : (j : ℕ) → j < entry_count → IsUsed old j → entry_id (entry_at old j) ≢ entry_id entry
  pub name : (j : ℕ) → j < entry_count → IsUsed old j → entry_name (entry_at old j) ≢ entry_name entry

-- the entry of an object is emptied
pub record EmptiesEntry (i : ℕ) (old new : List ℕ) : Type 0 where
  pub zeros : List ℕ
  pub set : IsEntrySet i zeros old new
  pub was_used : IsUsed old i
  pub empty : is_zeros zeros ≡ true
