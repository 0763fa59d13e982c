-- Which files pass the file's tests (this project's own). The first test that fails names the fault.
use Rattle.std.specs.Prelude.{ℕ, ◌%◌, ◌==◌, ◌&&◌, Bool, List, nat_le, codes, bytes_eq, slice_index, slice_range, Option}
use Rattle.spec_file.specs.declared.geometry.Geometry.{Geometry}
use Rattle.spec_file.specs.declared.page_type.TheConstants.{FILE_HEADER_TYPE}
use Rattle.spec_file.specs.declared.sizes.TheConstants.{EXTENT_SIZE, SMALLEST_FILE, LARGEST_FILE}
use Rattle.spec_file.specs.Image.{number_at}
use Rattle.spec_file.specs.Header.{header_version, says}
use Rattle.spec_file.specs.Places.{geometry_of_byte, page_limit}

-- Size: whole extents, at least two and at most 4 GiB
abbrev pub size_passes : ℕ → Bool
size_passes n = (n % EXTENT_SIZE == 0) && nat_le SMALLEST_FILE n && nat_le n LARGEST_FILE

-- Header: page 0 is a file header, and says so
abbrev pub header_passes : List ℕ → Bool
header_passes first =
    (header_version first == 1) && says FILE_HEADER_TYPE 0 first && bytes_eq (slice_range first 96 104) (codes "PGCHKDB1")

-- Version
abbrev pub version_passes : List ℕ → Bool
version_passes first = number_at 2 104 first == 1

-- Geometry
abbrev pub geometry_of : List ℕ → Option Geometry
geometry_of first = geometry_of_byte (slice_index first 106)

-- Count: page 0 gives the number of pages, and the geometry allows it
abbrev pub count_passes : Geometry → ℕ → List ℕ → Bool
count_passes g pages first = (number_at 4 108 first == pages) && nat_le pages (page_limit g)
