-- Which files pass their tests.
use Rattle.std.specs.Prelude.{◌≡◌, ℕ, List, Some, None}
use Rattle.spec_file.specs.declared.geometry.Geometry.{Geometry}
use Rattle.spec_file.specs.Image.{pages_of, page}
use Rattle.spec_file.specs.FileForm.{geometry_of}
use Rattle.spec_start.specs.declared.why.FileWhy.{FileWhy}
use Rattle.spec_start.specs.Files.{file_fault}

-- the file is refused for the first of its tests that fails
abbrev pub IsRefusedFor : FileWhy → List ℕ → Type 0
IsRefusedFor w file = file_fault file ≡ Some w

-- the file passes its tests
abbrev pub Passes : List ℕ → Type 0
Passes file = file_fault file ≡ None

-- page 0 of the file names this geometry
abbrev pub NamesGeometry : Geometry → List ℕ → Type 0
NamesGeometry g file = geometry_of (page (pages_of file) 0) ≡ Some g
