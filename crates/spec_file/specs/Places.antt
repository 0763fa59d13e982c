-- Where the map bits of an extent and the PFS byte of a page stand, in both geometries. The spans of
-- the standard geometry are close to those of the Pages and Extents Architecture Guide; their exact
-- numbers, and the small geometry, are this project's own.
use Rattle.std.specs.Prelude.{◌≡◌, ℕ, ◌+◌, ◌*◌, ◌/◌, ◌%◌, ◌≤◌, ◌==◌, ◌&&◌, not, nat_lt, length, if◌then◌else◌, Bool, Option, Some, None}
use Rattle.spec_file.specs.declared.sizes.TheConstants.{BIT_COUNT}
use Rattle.spec_file.specs.declared.geometry.Geometry.{Geometry}
use Rattle.spec_file.specs.declared.geometry.Geometry.TheVariants.{Standard, Small}
use Rattle.spec_file.specs.Image.{Image, page, bit, maps_start}

-- the geometry that a byte of page 0 names
abbrev pub geometry_of_byte : ℕ → Option Geometry
geometry_of_byte b = if b == 1 then Some Standard else (if b == 2 then Some Small else None)

-- how many extents one GAM page and one SGAM page speak of: an interval
abbrev pub interval_size : Geometry → ℕ
interval_size Standard = BIT_COUNT
interval_size Small = 64

-- how many pages one PFS page speaks of
abbrev pub pfs_span : Geometry → ℕ
pfs_span Standard = 8088
pfs_span Small = 88

-- the most pages that a file of this geometry has
abbrev pub page_limit : Geometry → ℕ
page_limit Standard = 524288
page_limit Small = 4096

-- the first page of an interval, counted by extents of eight pages
abbrev pub interval_start : Geometry → ℕ → ℕ
interval_start g m = 8 * interval_size g * m

-- the interval of a page
abbrev pub interval_of_page : Geometry → ℕ → ℕ
interval_of_page g p = p / (8 * interval_size g)

-- the GAM page of an interval stands at its beginning, but that of the first on page 2
abbrev pub gam_page : Geometry → ℕ → ℕ
gam_page g m = if m == 0 then 2 else interval_start g m

-- the SGAM page of an interval stands behind its GAM page
abbrev pub sgam_page : Geometry → ℕ → ℕ
sgam_page g m = gam_page g m + 1

-- the PFS page that speaks of page p: page 1 for the first of them
abbrev pub pfs_page : Geometry → ℕ → ℕ
pfs_page g p = if p / pfs_span g == 0 then 1 else pfs_span g * (p / pfs_span g)

-- a page, and a bit or a byte of it
pub record Place : Type 0 where
  pub page : ℕ
  pub at : ℕ

-- the GAM bit of an extent
abbrev pub gam_place : Geometry → ℕ → Place
gam_place g e = record { page = gam_page g (e / interval_size g); at = e % interval_size g }

-- the SGAM bit of an extent
abbrev pub sgam_place : Geometry → ℕ → Place
sgam_place g e = record { page = sgam_page g (e / interval_size g); at = e % interval_size g }

-- the PFS byte of a page, by its offset
abbrev pub pfs_place : Geometry → ℕ → Place
pfs_place g p = record { page = pfs_page g p; at = maps_start + p % pfs_span g }

-- the bit of an image at a place
abbrev pub bit_of : Image → Place → Bool
bit_of image place = bit (page image place.page) place.at

-- GAM: the extent is free
abbrev pub is_free : Geometry → Image → ℕ → Bool
is_free g image e = bit_of image (gam_place g e)

-- SGAM: the extent is mixed and has a free page
abbrev pub is_mixed : Geometry → Image → ℕ → Bool
is_mixed g image e = bit_of image (sgam_place g e)

-- how many extents the image has
abbrev pub extent_count : Image → ℕ
extent_count image = length image / 8

-- a page of the file; 0 stands for none
abbrev pub is_inside : ℕ → ℕ → Bool
is_inside pages q = not (q == 0) && nat_lt q pages

-- a file of so many pages: whole extents, inside the geometry's limits
pub record HasShape (g : Geometry) (pages : ℕ) : Type 0 where
  pub low : 16 ≤ pages
  pub high : pages ≤ page_limit g
  pub whole : pages % 8 ≡ 0
