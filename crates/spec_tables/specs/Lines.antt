-- The lines of a report that count the pages and rows of objects (after DBCC CHECKDB's message 2593).
use Rattle.std.specs.Prelude.{◌≡◌, ℕ, List, length, Contains}
use Rattle.std.specs.List.{sum_by}
use Rattle.std.specs.List.Sorted.{IsStrictlySortedBy}
use Rattle.std.specs.Ordering.{nat_cmp, on}
use Rattle.spec_file.specs.declared.geometry.Geometry.{Geometry}
use Rattle.spec_file.specs.Image.{Image, page}
use Rattle.spec_file.specs.CatalogRows.{CatalogRow}
use Rattle.spec_chain.specs.Chains.{IsObject}
use Rattle.spec_check.specs.declared.report.TableLine.{TableLine}
use Rattle.spec_tables.specs.Seen.{AreSeen, rows_on}

-- the line counts the pages seen of the object, and the data rows on them
pub record IsLineOf (g : Geometry) (image : Image) (row : CatalogRow) (line : TableLine) : Type 0 where
  pub object : line.object ≡ row.id
  pub seen : List ℕ
  pub are_seen : AreSeen g image row seen
  pub pages : line.pages ≡ length seen
  pub rows : line.rows ≡ sum_by (λ p. rows_on (page image p)) seen

-- one line for each object of the catalog, by id
pub record AreTables (g : Geometry) (image : Image) (lines : List TableLine) : Type 0 where
  pub sorted : IsStrictlySortedBy (on (λ line. line.object) nat_cmp) lines
  pub sound : (line : TableLine) → Contains lines line → (row : CatalogRow) × IsObject image row × IsLineOf g image row line
  pub complete : (row : CatalogRow) → IsObject image row → (line : TableLine) × Contains lines line × IsLineOf g image row line
