-- The guards of whole pages.
use Rattle.std.proofs.Common.{◌≡◌, ℕ, ◌-◌, ◌<◌, ◌≤◌, true, Some, None}
use Rattle.spec_file.specs.declared.data.Resource.TheVariants as resource
use Rattle.spec_file.specs.declared.geometry.Geometry.{Geometry}
use Rattle.spec_file.specs.Image.{maps_start}
use Rattle.spec_file.specs.Places.{pfs_page}
use Rattle.spec_file.specs.Roles.{is_ordinary}
use Rattle.spec_log.specs.Cover.{bit_guard, byte_guard}

-- every byte of a page that objects may own is guarded by that Page
abbrev pub PagesGuardThemselves : Type 0
PagesGuardThemselves = (g : Geometry) (pages p at : ℕ) → p < pages → is_ordinary g p ≡ true →
    byte_guard g pages p at ≡ Some (resource.Page (record { 0 = p }))

-- every byte of the boot page is guarded by the Catalog
abbrev pub CatalogGuardsBoot : Type 0
CatalogGuardsBoot = (g : Geometry) (pages at : ℕ) → 9 < pages → byte_guard g pages 9 at ≡ Some resource.Catalog

-- no byte of a PFS page's header has a guard, nor has a bit of a PFS page
abbrev pub PfsHeadersAreFixed : Type 0
PfsHeadersAreFixed = (g : Geometry) (pages p : ℕ) → 16 ≤ pages → p < pages →
    ((at : ℕ) → at < maps_start → byte_guard g pages (pfs_page g p) at ≡ None)
    × ((n : ℕ) → bit_guard g pages (pfs_page g p) n ≡ None)
