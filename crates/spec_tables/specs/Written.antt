-- The written check of an image: which report is its report. It knows no order of reading.
use Rattle.std.specs.Prelude.{◌≡◌, ◌⊎◌, []}
use Rattle.spec_file.specs.declared.geometry.Geometry.{Geometry}
use Rattle.spec_file.specs.Image.{Image}
use Rattle.spec_check.specs.declared.report.CheckError.{CheckError}
use Rattle.spec_check.specs.declared.report.CheckReport.{CheckReport}
use Rattle.spec_check.specs.Errors.{Lists}
use Rattle.spec_check.specs.System.{IsSystemError, IsSystemSound}
use Rattle.spec_check.specs.Allocation.{IsAllocationError}
use Rattle.spec_tree.specs.Trees.{IsTreeError}
use Rattle.spec_tables.specs.KnownPages.{known_of_image}
use Rattle.spec_tables.specs.PageRules.{IsPageError}
use Rattle.spec_tables.specs.Lines.{AreTables}

-- an error of the maps and chains, of a page by itself, or of the trees
abbrev pub IsRuleError : Geometry → Image → CheckError → Type 0
IsRuleError g image x = IsAllocationError g image x ⊎ (IsPageError g image x ⊎ IsTreeError (known_of_image g image) x)

-- system errors stand alone; where there are none, the errors of all rules stand
abbrev pub Stands : Geometry → Image → CheckError → Type 0
Stands g image x = IsSystemError g image x ⊎ (IsSystemSound g image × IsRuleError g image x)

-- some system page is wrong
abbrev pub HasSystemError : Geometry → Image → Type 0
HasSystemError g image = (x : CheckError) × IsSystemError g image x

-- the report lists the errors that stand; it has a line for each object, but none where a system page is
-- wrong
pub record IsCheckOf (g : Geometry) (image : Image) (report : CheckReport) : Type 0 where
  pub errors : Lists report.errors (Stands g image)
  pub tables : IsSystemSound g image → AreTables g image report.tables
  pub unsound : HasSystemError g image → report.tables ≡ []
