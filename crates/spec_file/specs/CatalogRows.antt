-- The catalog as the list of its rows (this project's own).
use Rattle.std.specs.Prelude.{ℕ, ◌==◌, Bool, not, List, map, filter, slice_index, if◌then◌else◌}
use Rattle.std.specs.List.{range_with_len}
use Rattle.spec_file.specs.declared.data.Kind.{Kind}
use Rattle.spec_file.specs.declared.data.Kind.TheVariants.{Heap, Clustered}
use Rattle.spec_file.specs.Image.{number_at}
use Rattle.spec_file.specs.Catalog.{entry_count, entry_at, entry_id, entry_name, is_zeros}

-- an object: its id, its kind, its name, the first page of its IAM chain, and the root of its tree
pub record CatalogRow : Type 0 where
  pub id : ℕ
  pub kind : Kind
  pub name : List ℕ
  pub first_iam : ℕ
  pub root : ℕ

-- the kind that byte 4 of an entry names
abbrev pub kind_of : ℕ → Kind
kind_of b = if b == 1 then Heap else Clustered

-- the object of an entry that isn't empty
abbrev pub row_of_entry : List ℕ → CatalogRow
row_of_entry entry = record {
  id = entry_id entry;
  kind = kind_of (slice_index entry 4);
  name = entry_name entry;
  first_iam = number_at 4 24 entry;
  root = number_at 4 28 entry;
}

abbrev pub is_used : List ℕ → Bool
is_used entry = not (is_zeros entry)

-- the objects of the first n entries, in their order
abbrev pub rows_before : List ℕ → ℕ → List CatalogRow
rows_before boot n = map row_of_entry (filter is_used (map (entry_at boot) (range_with_len 0 n)))

-- the objects of the catalog. The word stays closed in proofs, since it would open into 128 entries.
unfoldable pub rows_of : List ℕ → List CatalogRow
rows_of boot = rows_before boot entry_count
