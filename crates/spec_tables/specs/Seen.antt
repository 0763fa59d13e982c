-- The pages that a check sees of an object, and the data rows on them (Pages and Extents Architecture
-- Guide; the page test is this project's own).
use Rattle.std.specs.Prelude.{ℕ, ◌==◌, IsTrue, List, Contains, if◌then◌else◌}
use Rattle.std.specs.List.Sorted.{IsStrictlySortedBy}
use Rattle.std.specs.Ordering.{nat_cmp}
use Rattle.spec_file.specs.declared.geometry.Geometry.{Geometry}
use Rattle.spec_file.specs.declared.page_type.TheConstants.{DATA_TYPE}
use Rattle.spec_file.specs.Image.{Image, page}
use Rattle.spec_file.specs.Header.{page_type}
use Rattle.spec_file.specs.CatalogRows.{CatalogRow}
use Rattle.spec_file.specs.Roles.{is_ordinary}
use Rattle.spec_chain.specs.Uses.{IsAllocatedTo}
use Rattle.spec_rows.specs.Slots.{slot_count}
use Rattle.spec_rows.specs.PageTest.{PassesTest}

-- page p is allocated to the object, is one that an object may own, and passes its test
pub record IsSeen (g : Geometry) (image : Image) (row : CatalogRow) (p : ℕ) : Type 0 where
  pub allocated : IsAllocatedTo g image row p
  pub ordinary : IsTrue (is_ordinary g p)
  pub passes : PassesTest p row.id row.kind (page image p)

-- the pages seen of the object, rising
pub record AreSeen (g : Geometry) (image : Image) (row : CatalogRow) (pages : List ℕ) : Type 0 where
  pub sorted : IsStrictlySortedBy nat_cmp pages
  pub sound : (p : ℕ) → Contains pages p → IsSeen g image row p
  pub complete : (p : ℕ) → IsSeen g image row p → Contains pages p

-- how many data rows a page has: they stand on pages of one type
abbrev pub rows_on : List ℕ → ℕ
rows_on bytes = if page_type bytes == DATA_TYPE then slot_count bytes else 0
