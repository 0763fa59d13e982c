-- What the maps of a new file say (Pages and Extents Architecture Guide; which extents are free is this project's own).
use Rattle.std.specs.Prelude.{ℕ, ◌+◌, ◌-◌, ◌*◌, ◌/◌, ◌==◌, ◌&&◌, Bool, not, nat_lt, List, unwrap_or, if◌then◌else◌}
use Rattle.spec_file.specs.declared.geometry.Geometry.{Geometry}
use Rattle.spec_file.specs.declared.pfs.PfsKind.TheVariants as kinds
use Rattle.spec_file.specs.Image.{page_size, maps_start}
use Rattle.spec_file.specs.Pfs.{expected}
use Rattle.spec_file.specs.Places.{interval_size, interval_of_page, pfs_span}
use Rattle.spec_file.specs.Roles.{role_of, is_system_extent}
use Rattle.spec_check.specs.Pages.{kind_of_role}
use Rattle.spec_make.specs.Rules.{bytes_by, byte_where}

-- how many bytes stand behind a page's header
abbrev pub content_size : ℕ
content_size = page_size - maps_start

-- GAM: an extent of the file is free that is neither extent 1 nor a system extent
abbrev pub is_new_free : Geometry → ℕ → ℕ → Bool
is_new_free g pages e = nat_lt (8 * e) pages && not (e == 1) && not (is_system_extent g e)

-- SGAM: extent 1, which holds the boot page, is mixed, and no other
abbrev pub is_new_mixed : ℕ → Bool
is_new_mixed e = e == 1

-- bit n of the map page of interval m, which tells of the interval's extents; a bit behind the last of them is 0
abbrev pub tells_of : Geometry → (ℕ → Bool) → ℕ → ℕ → Bool
tells_of g test m n = nat_lt n (interval_size g) && test (interval_size g * m + n)

-- what stands behind the header of a GAM or SGAM page p, of which the test is asked for each extent: bit n is bit n % 8
-- of byte n / 8
abbrev pub map_content : Geometry → (ℕ → Bool) → ℕ → List ℕ
map_content g test p = bytes_by (λ i. byte_where (λ k. tells_of g test (interval_of_page g p) (8 * i + k))) content_size

-- PFS: the byte of a page of the file is that of its role, and an ordinary page has no use
abbrev pub new_pfs_byte : Geometry → ℕ → ℕ
new_pfs_byte g q = expected (unwrap_or (kind_of_role (role_of g q)) kinds.Unused) 0

-- the first page that PFS page p speaks of
abbrev pub pfs_start : Geometry → ℕ → ℕ
pfs_start g p = pfs_span g * (p / pfs_span g)

-- byte i behind the header of a PFS page that speaks of the pages from `first`; 0 past its span and past the file
abbrev pub pfs_byte_at : Geometry → ℕ → ℕ → ℕ → ℕ
pfs_byte_at g pages first i = if nat_lt i (pfs_span g) && nat_lt (first + i) pages then new_pfs_byte g (first + i) else 0

-- what stands behind the header of PFS page p
abbrev pub pfs_content : Geometry → ℕ → ℕ → List ℕ
pfs_content g pages p = bytes_by (pfs_byte_at g pages (pfs_start g p)) content_size
