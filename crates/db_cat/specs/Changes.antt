-- Which entries of the catalog are free, and what a change of one leaves (this project's own).
use Rattle.std.specs.Prelude.{◌≢◌, ℕ, ◌+◌, ◌<◌, IsTrue, ◌==◌, ◌&&◌, not, Bool, List, ◌∷◌, ◌++◌, length, map, filter, take, drop, Option, Some, None, slice_get}
use Rattle.std.specs.List.{list_any, range_with_len}
use Rattle.spec_file.specs.Catalog.{IsUsed, PassesCatalog, entry_count, entry_at, entry_id, entry_name, is_row, is_zeros}
use Rattle.spec_file.specs.CatalogRows.{CatalogRow}
use Rattle.spec_file.specs.CatalogBytes.{entry_bytes, with_entry}

-- the numbers of the entries of which this holds, rising. The word stays closed in proofs, since it would open into 128
-- entries.
unfoldable pub entries_where : (List ℕ → Bool) → List ℕ → List ℕ
entries_where holds boot = filter (λ i. holds (entry_at boot i)) (range_with_len 0 entry_count)

-- the lowest empty entry
abbrev pub free_entry : List ℕ → Option ℕ
free_entry boot = slice_get (entries_where is_zeros boot) 0

-- an object's entry that has this id
abbrev pub is_of : ℕ → List ℕ → Bool
is_of id entry = not (is_zeros entry) && (entry_id entry == id)

abbrev pub entry_of : List ℕ → ℕ → Option ℕ
entry_of boot id = slice_get (entries_where (is_of id) boot) 0

-- page 9 with these bytes as the entry, if there is one
abbrev pub with_bytes : Option ℕ → List ℕ → List ℕ → List ℕ
with_bytes None entry boot = boot
with_bytes (Some i) entry boot = with_entry i entry boot

-- the rows with one more, behind those of the entries before it
abbrev pub with_row : Option ℕ → CatalogRow → List CatalogRow → List CatalogRow
with_row None row rows = rows
with_row (Some i) row rows = take i rows ++ row ∷ drop i rows

-- the ids that no row has, of one more than there are rows, rising
unfoldable pub free_ids : List CatalogRow → List ℕ
free_ids rows = filter (λ id. not (list_any (λ row. row.id == id) rows)) (range_with_len 1 (length rows + 1))

-- no entry has the id or the name of this object
pub record IsNewRow (boot : List ℕ) (row : CatalogRow) : Type 0 where
  pub id : (k : ℕ) → k < entry_count → IsUsed boot k → entry_id (entry_at boot k) ≢ row.id
  pub name : (k : ℕ) → k < entry_count → IsUsed boot k → entry_name (entry_at boot k) ≢ row.name

-- an object that may get an entry: the catalog passes its test, its bytes are those of a row, and no entry has its id or
-- its name
pub record MayEnter (boot : List ℕ) (row : CatalogRow) : Type 0 where
  pub passes : PassesCatalog boot
  pub form : IsTrue (is_row (entry_bytes row))
  pub new : IsNewRow boot row
