-- The pages of a new file, each by its role (this project's own).
use Rattle.std.specs.Prelude.{ℕ, ◌-◌, List, ◌∷◌, ◌++◌, map, replicate, codes, Option, Some, None}
use Rattle.std.specs.List.{range_with_len}
use Rattle.byteorder.specs.Endian.{little_bytes}
use Rattle.spec_file.specs.declared.geometry.Geometry.{Geometry}
use Rattle.spec_file.specs.declared.geometry.Geometry.TheVariants.{Standard, Small}
use Rattle.spec_file.specs.declared.role.Role.{Role}
use Rattle.spec_file.specs.declared.role.Role.TheVariants as role
use Rattle.spec_file.specs.declared.page_type.TheConstants.{FILE_HEADER_TYPE}
use Rattle.spec_file.specs.Image.{Image, maps_start}
use Rattle.spec_file.specs.Roles.{role_of, system_type}
use Rattle.spec_make.specs.NewMaps.{content_size, is_new_free, is_new_mixed, map_content, pfs_content}

-- the type that a page of this role says; a page of any other role has no header
abbrev pub new_type : Role → Option ℕ
new_type role.FileHeader = Some FILE_HEADER_TYPE
new_type role.Pfs = system_type role.Pfs
new_type role.Gam = system_type role.Gam
new_type role.Sgam = system_type role.Sgam
new_type role.Boot = system_type role.Boot
new_type role.Reserved = None
new_type role.Ordinary = None

-- a header says the header version, which is 1, the type, and the page's own number; else it is zeros
abbrev pub new_header : Option ℕ → ℕ → List ℕ
new_header None p = replicate maps_start 0
new_header (Some type) p = 1 ∷ type ∷ 0 ∷ 0 ∷ little_bytes 4 p ++ replicate (maps_start - 8) 0

-- the byte that names a geometry
abbrev pub geometry_byte : Geometry → ℕ
geometry_byte Standard = 1
geometry_byte Small = 2

-- page 0, behind its header: eight letters, the version, which is 1, the geometry, and how many pages the file has
abbrev pub first_content : Geometry → ℕ → List ℕ
first_content g pages =
    codes "PGCHKDB1" ++ (little_bytes 2 1 ++ (geometry_byte g ∷ 0 ∷ little_bytes 4 pages ++ replicate (content_size - 16) 0))

-- what stands behind the header of page p, which has this role: nothing on the boot page, whose catalog is empty, nor on
-- a page that has no header
abbrev pub new_content : Role → Geometry → ℕ → ℕ → List ℕ
new_content role.FileHeader g pages p = first_content g pages
new_content role.Pfs g pages p = pfs_content g pages p
new_content role.Gam g pages p = map_content g (is_new_free g pages) p
new_content role.Sgam g pages p = map_content g is_new_mixed p
new_content role.Boot g pages p = replicate content_size 0
new_content role.Reserved g pages p = replicate content_size 0
new_content role.Ordinary g pages p = replicate content_size 0

-- page p of a new file of so many pages
unfoldable pub new_page : Geometry → ℕ → ℕ → List ℕ
new_page g pages p = new_header (new_type (role_of g p)) p ++ new_content (role_of g p) g pages p

-- a new file: these pages, one after another
unfoldable pub new_file : Geometry → ℕ → Image
new_file g pages = map (new_page g pages) (range_with_len 0 pages)
