-- All parts of a clean file together are 'no error' of the written check.
use Rattle.std.specs.Prelude.{◌≡◌, ◌≢◌, ◌↔◌, ℕ, ◌<◌, IsTrue, [], length}
use Rattle.spec_file.specs.declared.geometry.Geometry.{Geometry}
use Rattle.spec_file.specs.Image.{Image, page}
use Rattle.spec_file.specs.Header.{header_of}
use Rattle.spec_file.specs.Kinds.{is_clustered}
use Rattle.spec_file.specs.CatalogRows.{CatalogRow}
use Rattle.spec_file.specs.Places.{HasShape}
use Rattle.spec_check.specs.declared.report.CheckError.{CheckError}
use Rattle.spec_check.specs.declared.report.CheckReport.{CheckReport}
use Rattle.spec_tables.specs.Seen.{IsSeen}
use Rattle.spec_tables.specs.Heads.{child_at, index_rows}
use Rattle.spec_tables.specs.Written.{Stands, IsCheckOf}
use Rattle.spec_clean.specs.CleanTables.{IsCleanTable}
use Rattle.spec_clean.specs.CleanFiles.{IsClean}

-- in an image with a file's shape every part is clean exactly where no error stands
abbrev pub CleanHasNoErrors : Type 0
CleanHasNoErrors = (g : Geometry) (image : Image) → HasShape g (length image) → IsClean g image ↔ ((x : CheckError) → Stands g image x → ⊥)

-- and exactly where its report lists none
abbrev pub CleanHasEmptyReport : Type 0
CleanHasEmptyReport = (g : Geometry) (image : Image) (report : CheckReport) → HasShape g (length image) → IsCheckOf g image report
    → IsClean g image ↔ (report.errors ≡ [])

-- a clean table's pages name its own pages: the next of a page that is seen, where there is one, can't but be seen
abbrev pub NextIsSeen : Type 0
NextIsSeen = (g : Geometry) (image : Image) (row : CatalogRow) (p : ℕ) → IsCleanTable g image row → IsTrue (is_clustered row.kind)
    → IsSeen g image row p → (header_of (page image p)).next.0 ≢ 0 → (IsSeen g image row (header_of (page image p)).next.0 → ⊥) → ⊥

-- and so can't a page that an index row names
abbrev pub ChildIsSeen : Type 0
ChildIsSeen = (g : Geometry) (image : Image) (row : CatalogRow) (p slot : ℕ) → IsCleanTable g image row → IsTrue (is_clustered row.kind)
    → IsSeen g image row p → slot < index_rows (page image p) → (IsSeen g image row (child_at (page image p) slot) → ⊥) → ⊥
