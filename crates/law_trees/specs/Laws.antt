-- In an image, a clustered table without errors of trees and of the order of keys is a tree of levels.
use Rattle.std.specs.Prelude.{if◌then◌else◌, ◌≡◌, ◌≢◌, ◌⊎◌, ◌↔◌, ◌<◌, IsTrue, ℕ, List, [], length, Some}
use Rattle.spec_file.specs.declared.geometry.Geometry.{Geometry}
use Rattle.spec_file.specs.CatalogRows.{CatalogRow}
use Rattle.spec_file.specs.Image.{Image, page, page_size}
use Rattle.spec_file.specs.Kinds.{is_clustered}
use Rattle.spec_chain.specs.Chains.{IsObject}
use Rattle.spec_rows.specs.Rows.{PageRow, DataRow, IndexRow, row_of}
use Rattle.spec_rows.specs.Slots.{slot_count, page_row, has_index_rows}
use Rattle.spec_check.specs.declared.report.CheckError.{CheckError}
use Rattle.spec_check.specs.declared.report.CheckReport.{CheckReport}
use Rattle.spec_check.specs.Allocation.{IsAllocationError}
use Rattle.spec_check.specs.System.{IsSystemSound}
use Rattle.spec_tree.specs.Trees.{IsTreeError}
use Rattle.spec_tables.specs.KnownPages.{known_of_image}
use Rattle.spec_tables.specs.PageRules.{HasWrongOrder, IsPageError}
use Rattle.spec_tables.specs.Seen.{IsSeen, AreSeen}
use Rattle.spec_tables.specs.Written.{IsCheckOf}
use Rattle.spec_levels.specs.Levels.{Tree}
use Rattle.spec_levels.specs.Pages.{IsTreeOf}
use Rattle.law_levels.specs.Known.{HasNoTreeErrors}
use Rattle.law_trees.specs.Read.{leaf_row, child_row, pages_read}

-- the row of a slot as a node has it, in the words of the grammar
abbrev pub row_read : List ℕ → ℕ → PageRow
row_read bytes slot =
    if has_index_rows bytes then IndexRow (child_row bytes slot).key (child_row bytes slot).value
    else DataRow (leaf_row bytes slot).key (leaf_row bytes slot).value

-- on a whole page that is seen, the rows that a node has are those of the grammar
abbrev pub RowsAreRead : Type 0
RowsAreRead = (geometry : Geometry) (image : Image) (row : CatalogRow) (number slot : ℕ) → IsSeen geometry image row number → length (page image number) ≡ page_size
    → slot < slot_count (page image number) → row_of (page_row (page image number) slot) ≡ Some (row_read (page image number) slot)

-- on no page seen of the object is a key out of order
abbrev pub IsOrdered : Geometry → Image → CatalogRow → Type 0
IsOrdered geometry image row = (number : ℕ) (error : CheckError) → IsSeen geometry image row number → HasWrongOrder row number (page image number) error → ⊥

-- no error of the rules of trees stands at the object, and no key of it is out of order
abbrev pub IsSoundTable : Geometry → Image → CatalogRow → Type 0
IsSoundTable geometry image row = HasNoTreeErrors (known_of_image geometry image) row.id × IsOrdered geometry image row

-- these pages, seen of the object, are those of a tree that has its root where the catalog says
abbrev pub HasTree : Image → CatalogRow → List ℕ → Type 0
HasTree image row numbers = (tree : Tree) × IsTreeOf row.root (pages_read image numbers) tree

-- no system page of the file is wrong, and it has page 9, where its catalog stands
abbrev pub HasSoundSystem : Geometry → Image → Type 0
HasSoundSystem geometry image = IsSystemSound geometry image × (9 < length image)

-- a clustered table is sound exactly where the pages seen of it are those of a tree
abbrev pub SoundTableIsTree : Type 0
SoundTableIsTree = (geometry : Geometry) (image : Image) (row : CatalogRow) (numbers : List ℕ) → HasSoundSystem geometry image
    → IsObject image row → IsTrue (is_clustered row.kind) → AreSeen geometry image row numbers → IsSoundTable geometry image row ↔ HasTree image row numbers

-- no error of the rules of trees, and no key out of order, stands in the file
abbrev pub HasSoundTables : Geometry → Image → Type 0
HasSoundTables geometry image =
    ((error : CheckError) → IsTreeError (known_of_image geometry image) error → ⊥) × ((row : CatalogRow) → IsObject image row → IsOrdered geometry image row)

-- each clustered table is a tree of levels
abbrev pub HasTrees : Geometry → Image → Type 0
HasTrees geometry image = (row : CatalogRow) (numbers : List ℕ) → IsObject image row → IsTrue (is_clustered row.kind)
    → AreSeen geometry image row numbers → HasTree image row numbers

abbrev pub SoundFileHasTrees : Type 0
SoundFileHasTrees = (geometry : Geometry) (image : Image) → HasSoundSystem geometry image → HasSoundTables geometry image ↔ HasTrees geometry image

-- maps, chains and pages by themselves have no error, but that keys may be out of order (2511)
abbrev pub IsSoundBesideTrees : Geometry → Image → Type 0
IsSoundBesideTrees geometry image = (error : CheckError) → IsAllocationError geometry image error ⊎ (IsPageError geometry image error × (error.number ≢ 2511)) → ⊥

-- a report has no errors exactly where maps, chains and pages have none and each clustered table is a tree
abbrev pub CleanReportHasTrees : Type 0
CleanReportHasTrees = (geometry : Geometry) (image : Image) (report : CheckReport) → HasSoundSystem geometry image → IsCheckOf geometry image report
    → report.errors ≡ [] ↔ (IsSoundBesideTrees geometry image × HasTrees geometry image)
