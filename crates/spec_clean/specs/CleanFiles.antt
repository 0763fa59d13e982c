-- A clean file, part by part. Each part has a resource, which guards what the part reads (the cut is this project's
-- own).
use Rattle.std.specs.Prelude.{◌≡◌, ◌<◌}
use Rattle.spec_file.specs.declared.geometry.Geometry.{Geometry}
use Rattle.spec_file.specs.declared.data.Resource.{Resource}
use Rattle.spec_file.specs.declared.data.Resource.TheVariants.{Catalog, Table, Extent, Byte, Page}
use Rattle.spec_file.specs.Image.{Image}
use Rattle.spec_file.specs.CatalogRows.{CatalogRow}
use Rattle.spec_file.specs.Places.{extent_count}
use Rattle.spec_chain.specs.Chains.{IsObject}
use Rattle.spec_check.specs.declared.report.CheckError.{CheckError}
use Rattle.spec_check.specs.System.{IsSystemSound}
use Rattle.spec_check.specs.Allocation.{IsAllocationError}
use Rattle.spec_extents.specs.Extents.{extent_of}
use Rattle.spec_clean.specs.CleanExtents.{IsCleanExtent}
use Rattle.spec_clean.specs.CleanTables.{IsCleanTable}

-- the part of a resource: of the catalog, the system pages with the catalog itself; of an extent of the file, that
-- extent; of a table, the object of this id, where the catalog has one. PFS bytes and pages have no part of their own.
abbrev pub IsCleanPart : Geometry → Image → Resource → Type 0
IsCleanPart g image Catalog = IsSystemSound g image
IsCleanPart g image (Extent e) = e.0 < extent_count image → IsCleanExtent g e.0 (extent_of g image e.0)
IsCleanPart g image (Table o) = (row : CatalogRow) → IsObject image row → row.id ≡ o.0 → IsCleanTable g image row
IsCleanPart g image (Byte p) = Unit {0}
IsCleanPart g image (Page p) = Unit {0}

-- every part is clean
abbrev pub IsClean : Geometry → Image → Type 0
IsClean g image = (resource : Resource) → IsCleanPart g image resource

-- the maps and chains alone are clean: no system page is wrong, and no error of the allocation rules stands
pub record HasCleanMaps (g : Geometry) (image : Image) : Type 0 where
  pub system : IsSystemSound g image
  pub none : (x : CheckError) → IsAllocationError g image x → ⊥
