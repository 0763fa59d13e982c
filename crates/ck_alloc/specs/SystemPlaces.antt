-- The system places of a file: a PFS page for each span of pages, a GAM and an SGAM page for each interval
-- (Pages and Extents Architecture Guide).
use Rattle.std.specs.Prelude.{ℕ, ◌+◌, ◌-◌, ◌*◌, ◌/◌, ◌%◌, ◌==◌, min, if◌then◌else◌, Bool, List, map, slice_index}
use Rattle.std.specs.List.{range_with_len}
use Rattle.spec_file.specs.declared.geometry.Geometry.{Geometry}
use Rattle.spec_file.specs.Image.{Image, page, bit, maps_start}
use Rattle.spec_file.specs.Places.{interval_size, pfs_span, gam_page, sgam_page}
use Rattle.ck_alloc.specs.declared.places.SystemKind.{SystemKind}
use Rattle.ck_alloc.specs.declared.places.SystemKind.TheVariants.{Pfs, Gam, Sgam}

-- how many pages one system place speaks of
abbrev pub span_of : SystemKind → Geometry → ℕ
span_of Pfs g = pfs_span g
span_of Gam g = 8 * interval_size g
span_of Sgam g = 8 * interval_size g

-- how many values one of them holds, and how many a file of so many pages has: a bit for each extent, or a byte
-- for each page
abbrev pub size_of : SystemKind → Geometry → ℕ
size_of Pfs g = pfs_span g
size_of Gam g = interval_size g
size_of Sgam g = interval_size g

abbrev pub value_count : SystemKind → ℕ → ℕ
value_count Pfs pages = pages
value_count Gam pages = pages / 8
value_count Sgam pages = pages / 8

-- how many values of the k-th of them are those of the file
abbrev pub rest_of : SystemKind → Geometry → ℕ → ℕ → ℕ
rest_of kind g pages k = min (value_count kind pages - size_of kind g * k) (size_of kind g)

-- the k-th of them, from 0
abbrev pub place_of : SystemKind → Geometry → ℕ → ℕ
place_of Pfs g k = if k == 0 then 1 else pfs_span g * k
place_of Gam g k = gam_page g k
place_of Sgam g k = sgam_page g k

-- how many of them a file of so many pages has
abbrev pub place_count : SystemKind → Geometry → ℕ → ℕ
place_count kind g pages = (pages + span_of kind g - 1) / span_of kind g

-- all pages of a kind, as the image has them
abbrev pub places_of_image : SystemKind → Geometry → Image → ℕ → List (List ℕ)
places_of_image kind g image count = map (λ k. page image (place_of kind g k)) (range_with_len 0 count)

-- the bit of an extent, where the maps of all intervals are given
abbrev pub bit_in : Geometry → List (List ℕ) → ℕ → Bool
bit_in g maps e = bit (page maps (e / interval_size g)) (e % interval_size g)

-- byte i of those of a PFS page
abbrev pub byte_of : List ℕ → ℕ → ℕ
byte_of bytes i = slice_index bytes (maps_start + i)

-- the PFS byte of a page, where all PFS pages are given
abbrev pub byte_in : Geometry → List (List ℕ) → ℕ → ℕ
byte_in g maps p = byte_of (page maps (p / pfs_span g)) (p % pfs_span g)
