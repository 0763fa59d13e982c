-- The guards at the places of a file's maps.
use Rattle.std.specs.Prelude.{◌≡◌, ℕ, ◌/◌, ◌<◌, ◌≤◌, Some}
use Rattle.spec_file.specs.declared.data.Resource.TheVariants as resource
use Rattle.spec_file.specs.declared.geometry.Geometry.{Geometry}
use Rattle.spec_file.specs.Places.{page_limit, gam_place, sgam_place, pfs_place}
use Rattle.spec_log.specs.Cover.{bit_guard, byte_guard}

-- the GAM bit and the SGAM bit of an extent of the file are guarded by that Extent
abbrev pub ExtentsGuardBits : Type 0
ExtentsGuardBits = (g : Geometry) (pages e : ℕ) → 16 ≤ pages → pages ≤ page_limit g → e < pages / 8 →
    (bit_guard g pages (gam_place g e).page (gam_place g e).at ≡ Some (resource.Extent (record { 0 = e })))
    × (bit_guard g pages (sgam_place g e).page (sgam_place g e).at ≡ Some (resource.Extent (record { 0 = e })))

-- the PFS byte of a page of the file is guarded by that page's Byte
abbrev pub PagesGuardBytes : Type 0
PagesGuardBytes = (g : Geometry) (pages p : ℕ) → 16 ≤ pages → p < pages →
    byte_guard g pages (pfs_place g p).page (pfs_place g p).at ≡ Some (resource.Byte (record { 0 = p }))
