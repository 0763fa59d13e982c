-- Which test a file fails first, and which files a run takes.
use Rattle.std.specs.Prelude.{◌≡◌, ◌⊎◌, ℕ, ◌*◌, ◌/◌, ◌&&◌, Bool, true, false, IsTrue, not, List, length, Option, Some, None, if◌then◌else◌}
use Rattle.std.specs.List.{list_any}
use Rattle.spec_file.specs.declared.geometry.Geometry.{Geometry}
use Rattle.spec_file.specs.Image.{Image, page_size, pages_of, page}
use Rattle.spec_file.specs.FileForm.{size_passes, header_passes, version_passes, geometry_of, count_passes}
use Rattle.spec_file.specs.Kinds.{is_clustered}
use Rattle.spec_file.specs.CatalogRows.{rows_of}
use Rattle.spec_log.specs.Cells.{HasWholePages}
use Rattle.spec_plan.specs.Reading.{is_catalog}
use Rattle.spec_start.specs.declared.why.FileWhy.{FileWhy}
use Rattle.spec_start.specs.declared.why.FileWhy.TheVariants as why

-- page 0 names a geometry, and gives the number of pages
abbrev pub count_fault : Option Geometry → ℕ → List ℕ → Option FileWhy
count_fault None pages first = Some why.Geometry
count_fault (Some g) pages first = if count_passes g pages first then None else Some why.Count

-- the first test of page 0 that fails
abbrev pub opening_fault : ℕ → List ℕ → Option FileWhy
opening_fault pages first =
    if not (header_passes first) then Some why.Header
    else (if not (version_passes first) then Some why.Version else count_fault (geometry_of first) pages first)

-- the first of the file's tests that fails
abbrev pub file_fault : List ℕ → Option FileWhy
file_fault bytes =
    if not (size_passes (length bytes)) then Some why.Size
    else opening_fault (length bytes / page_size) (page (pages_of bytes) 0)

-- page 9 passes its tests, and its catalog has a clustered table
abbrev pub has_clustered_table : List ℕ → Bool
has_clustered_table boot = is_catalog boot && list_any (λ row. is_clustered row.kind) (rows_of boot)

-- the file of a run is refused for the first of its tests that fails; where none fails, it is one for later if it has
-- a clustered table
abbrev pub IsRefusedForRun : FileWhy → List ℕ → Type 0
IsRefusedForRun w bytes =
    (file_fault bytes ≡ Some w)
    ⊎ ((w ≡ why.Later) × (file_fault bytes ≡ None) × (has_clustered_table (page (pages_of bytes) 9) ≡ true))

-- a run takes a file that passes its tests and has no clustered table
abbrev pub IsRunFile : List ℕ → Type 0
IsRunFile bytes = (file_fault bytes ≡ None) × (has_clustered_table (page (pages_of bytes) 9) ≡ false)

-- pages in memory of a file that passes its tests
pub record PassesTests (image : Image) : Type 0 where
  pub whole : HasWholePages image
  pub size : IsTrue (size_passes (page_size * length image))
  pub first : opening_fault (length image) (page image 0) ≡ None

-- pages in memory of a file that a run takes
abbrev pub IsRunImage : Image → Type 0
IsRunImage image = PassesTests image × (has_clustered_table (page image 9) ≡ false)

-- the pages in memory are those of the file, and it has no other bytes
abbrev pub AreAllPages : Image → List ℕ → Type 0
AreAllPages image bytes = (length bytes ≡ page_size * length image) × (image ≡ pages_of bytes)
