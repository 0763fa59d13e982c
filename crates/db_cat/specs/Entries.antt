-- The catalog test, entry by entry.
use Rattle.std.specs.Prelude.{◌≢◌, ℕ, ◌<◌, IsTrue, List}
use Rattle.spec_file.specs.Catalog.{IsUsed, entry_at, entry_id, entry_name, is_row}

-- no earlier entry has the id or the name of entry i
pub record IsNew (boot : List ℕ) (i : ℕ) : Type 0 where
  pub id : (j : ℕ) → j < i → IsUsed boot j → entry_id (entry_at boot i) ≢ entry_id (entry_at boot j)
  pub name : (j : ℕ) → j < i → IsUsed boot j → entry_name (entry_at boot i) ≢ entry_name (entry_at boot j)

-- entry i is empty, or a row whose id and name are new
pub record IsGoodEntry (boot : List ℕ) (i : ℕ) : Type 0 where
  pub row : IsUsed boot i → IsTrue (is_row (entry_at boot i))
  pub new : IsUsed boot i → IsNew boot i
