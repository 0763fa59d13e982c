-- What a new file is, for every number of pages inside the limits of its geometry.
use Rattle.std.specs.Prelude.{◌≡◌, ℕ, [], Some, None, length}
use Rattle.spec_file.specs.declared.geometry.Geometry.{Geometry}
use Rattle.spec_file.specs.Image.{page, pages_of, bytes_of}
use Rattle.spec_file.specs.CatalogRows.{rows_of}
use Rattle.spec_file.specs.FileForm.{geometry_of}
use Rattle.spec_file.specs.Places.{HasShape}
use Rattle.spec_log.specs.Cells.{HasWholePages}
use Rattle.spec_check.specs.declared.report.CheckReport.{CheckReport}
use Rattle.spec_tables.specs.Written.{IsCheckOf}
use Rattle.spec_clean.specs.CleanFiles.{IsClean}
use Rattle.spec_start.specs.Files.{file_fault, IsRunFile}
use Rattle.spec_steps.specs.Sgam.{HasExactSgam}
use Rattle.spec_make.specs.NewPages.{new_file}

-- it has so many pages, each whole, and they are the pages of its bytes
pub record IsWhole (g : Geometry) (pages : ℕ) : Type 0 where
  pub count : length (new_file g pages) ≡ pages
  pub whole : HasWholePages (new_file g pages)
  pub same : pages_of (bytes_of (new_file g pages)) ≡ new_file g pages

abbrev pub NewFileIsWhole : Type 0
NewFileIsWhole = (g : Geometry) (pages : ℕ) → IsWhole g pages

-- its bytes fail none of the file's tests, page 0 names its geometry, and a run takes it
pub record Passes (g : Geometry) (pages : ℕ) : Type 0 where
  pub tests : file_fault (bytes_of (new_file g pages)) ≡ None
  pub geometry : geometry_of (page (new_file g pages) 0) ≡ Some g
  pub run : IsRunFile (bytes_of (new_file g pages))

abbrev pub NewFilePasses : Type 0
NewFilePasses = (g : Geometry) (pages : ℕ) → HasShape g pages → Passes g pages

-- every part of it is clean
abbrev pub NewFileIsClean : Type 0
NewFileIsClean = (g : Geometry) (pages : ℕ) → HasShape g pages → IsClean g (new_file g pages)

-- its report lists no error and no table
abbrev pub NewReportIsEmpty : Type 0
NewReportIsEmpty = (g : Geometry) (pages : ℕ) (report : CheckReport) → HasShape g pages → IsCheckOf g (new_file g pages) report
    → report ≡ record { errors = []; tables = [] }

-- its catalog holds no object
abbrev pub NewFileHoldsNothing : Type 0
NewFileHoldsNothing = (g : Geometry) (pages : ℕ) → HasShape g pages → rows_of (page (new_file g pages) 9) ≡ []

-- an extent has its SGAM bit exactly where it is mixed and has a page to take
abbrev pub NewSgamIsExact : Type 0
NewSgamIsExact = (g : Geometry) (pages : ℕ) → HasShape g pages → HasExactSgam g (new_file g pages)
