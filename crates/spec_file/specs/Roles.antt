-- The role of a page follows from its number (Pages and Extents Architecture Guide).
use Rattle.std.specs.Prelude.{ℕ, ◌*◌, ◌/◌, ◌==◌, ◌||◌, Bool, true, false, if◌then◌else◌, Option, Some, None}
use Rattle.std.specs.List.{list_any, range_with_len}
use Rattle.spec_file.specs.declared.geometry.Geometry.{Geometry}
use Rattle.spec_file.specs.declared.role.Role.{Role}
use Rattle.spec_file.specs.declared.role.Role.TheVariants as role
use Rattle.spec_file.specs.declared.page_type.TheConstants.{GAM_TYPE, SGAM_TYPE, PFS_TYPE, BOOT_TYPE}
use Rattle.spec_file.specs.Places.{interval_of_page, gam_page, sgam_page, pfs_page}

-- a PFS page is the one that speaks of itself
abbrev pub is_pfs_page : Geometry → ℕ → Bool
is_pfs_page g p = p == pfs_page g p

-- a GAM page is that of its own interval
abbrev pub is_gam_page : Geometry → ℕ → Bool
is_gam_page g p = p == gam_page g (interval_of_page g p)

abbrev pub is_sgam_page : Geometry → ℕ → Bool
is_sgam_page g p = p == sgam_page g (interval_of_page g p)

-- a page of one of the three kinds of maps
abbrev pub is_system_place : Geometry → ℕ → Bool
is_system_place g p = is_pfs_page g p || is_gam_page g p || is_sgam_page g p

-- page 0 or such a page is among the eight of the extent
abbrev pub is_system_extent : Geometry → ℕ → Bool
is_system_extent g e = list_any (λ p. (p == 0) || is_system_place g p) (range_with_len (8 * e) 8)

abbrev pub role_of : Geometry → ℕ → Role
role_of g p =
    if p == 0 then role.FileHeader else (if is_pfs_page g p then role.Pfs else (if is_gam_page g p then role.Gam
    else (if is_sgam_page g p then role.Sgam else (if p == 9 then role.Boot
    else (if is_system_extent g (p / 8) then role.Reserved else role.Ordinary)))))

-- the type that a system place and the boot page must have
abbrev pub system_type : Role → Option ℕ
system_type role.Pfs = Some PFS_TYPE
system_type role.Gam = Some GAM_TYPE
system_type role.Sgam = Some SGAM_TYPE
system_type role.Boot = Some BOOT_TYPE
system_type role.FileHeader = None
system_type role.Reserved = None
system_type role.Ordinary = None

-- an object may own pages of this role
abbrev pub is_for_objects : Role → Bool
is_for_objects role.Ordinary = true
is_for_objects role.FileHeader = false
is_for_objects role.Pfs = false
is_for_objects role.Gam = false
is_for_objects role.Sgam = false
is_for_objects role.Reserved = false
is_for_objects role.Boot = false

-- a page that an object may own
abbrev pub is_ordinary : Geometry → ℕ → Bool
is_ordinary g p = is_for_objects (role_of g p)
