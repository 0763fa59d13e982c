-- What a statement asks of the catalog, and of the pages of a chain (this project's own).
use Rattle.std.specs.Prelude.{ℕ, zero, suc, ◌/◌, ◌%◌, ◌==◌, ◌&&◌, ◌||◌, not, nat_lt, bytes_eq, is_none, Bool, if◌then◌else◌, List, [], ◌∷◌, ◌++◌, length, filter, Option, Some, None}
use Rattle.std.specs.List.{list_any, list_all, range_with_len}
use Rattle.spec_file.specs.declared.data.Resource.TheVariants as resource
use Rattle.spec_file.specs.declared.geometry.Geometry.{Geometry}
use Rattle.spec_file.specs.declared.page_type.TheConstants.{BOOT_TYPE, PFS_TYPE}
use Rattle.spec_file.specs.Image.{Image, page}
use Rattle.spec_file.specs.Header.{says}
use Rattle.spec_file.specs.Places.{interval_size, interval_of_page, pfs_page, is_inside}
use Rattle.spec_file.specs.Catalog.{entry_count, entry_at, entry_id, entry_name, is_zeros, is_row}
use Rattle.spec_file.specs.CatalogRows.{CatalogRow, rows_of}
use Rattle.spec_file.specs.Iam.{iam_interval, iam_slots, iam_mark}

-- entries i and j share neither id nor name
abbrev pub are_apart : List ℕ → ℕ → ℕ → Bool
are_apart boot i j =
    is_zeros (entry_at boot j)
    || (not (entry_id (entry_at boot i) == entry_id (entry_at boot j)) && not (bytes_eq (entry_name (entry_at boot i)) (entry_name (entry_at boot j))))

-- entry i is empty, or a row that shares neither id nor name with an earlier one
abbrev pub is_good_entry : List ℕ → ℕ → Bool
is_good_entry boot i = is_zeros (entry_at boot i) || (is_row (entry_at boot i) && list_all (are_apart boot i) (range_with_len 0 i))

-- the catalog passes its test. The word stays closed in proofs, since it would open into 128 entries.
unfoldable pub passes_catalog : List ℕ → Bool
passes_catalog boot = list_all (is_good_entry boot) (range_with_len 0 entry_count)

-- page 9 says what it is, and its catalog passes
abbrev pub is_catalog : List ℕ → Bool
is_catalog boot = says BOOT_TYPE 9 boot && passes_catalog boot

-- the object of this name
abbrev pub named_among : List CatalogRow → List ℕ → Option CatalogRow
named_among [] name = None
named_among (row ∷ rows) name = if bytes_eq row.name name then Some row else named_among rows name

-- the single-page slots of an IAM page hold pages of the file, or none
abbrev pub are_slots_inside : Image → ℕ → Bool
are_slots_inside image p = list_all (λ q. nat_lt q (length image)) (iam_slots (page image p))

-- the first page of a chain
abbrev pub first_page : List ℕ → ℕ
first_page [] = 0
first_page (p ∷ chain) = p

-- a single-page slot of the chain holds page p
abbrev pub is_single : Image → List ℕ → ℕ → Bool
is_single image chain p = not (p == 0) && list_any (λ q. q == p) (iam_slots (page image (first_page chain)))

-- a page of the chain marks the extent of page p
abbrev pub is_marked : Geometry → Image → List ℕ → ℕ → Bool
is_marked g image chain p =
    list_any (λ q. (iam_interval (page image q) == interval_of_page g p) && iam_mark (page image q) ((p / 8) % interval_size g)) chain
