-- What a clean file shows of one object: its chain, the PFS bytes for which it answers, its pages, and its tree.
use Rattle.std.specs.Prelude.{ℕ, ◌/◌, ◌<◌, IsTrue, length}
use Rattle.spec_file.specs.declared.geometry.Geometry.{Geometry}
use Rattle.spec_file.specs.Image.{Image}
use Rattle.spec_file.specs.CatalogRows.{CatalogRow}
use Rattle.spec_file.specs.Roles.{is_ordinary}
use Rattle.spec_chain.specs.Marks.{IsMarked}
use Rattle.spec_chain.specs.Uses.{IsUseBy, IsAllocatedTo, pfs_byte}
use Rattle.spec_check.specs.declared.report.CheckError.{CheckError}
use Rattle.spec_check.specs.Chains.{IsErrorOfChain}
use Rattle.spec_tree.specs.Trees.{IsTreeError}
use Rattle.spec_tables.specs.PageRules.{IsErrorOf}
use Rattle.spec_extents.specs.Extents.{FitsUse, FitsMark}
use Rattle.spec_clean.specs.KnownOfObject.{known_of_object}

-- no page that is allocated to the object shows an error by itself, and no rule of trees finds one over its own pages
pub record HasCleanPages (g : Geometry) (image : Image) (row : CatalogRow) : Type 0 where
  pub alone : (p : ℕ) (x : CheckError) → IsAllocatedTo g image row p → IsErrorOf g image row p x → ⊥
  pub tree : (x : CheckError) → IsTreeError (known_of_object g image row) x → ⊥

-- the object's chain has no error, each page that it uses or whose extent it marks has the PFS byte of such a page, and
-- its pages are clean
pub record IsCleanTable (g : Geometry) (image : Image) (row : CatalogRow) : Type 0 where
  pub chain : (x : CheckError) → IsErrorOfChain g image row x → ⊥
  pub used : (p place : ℕ) → IsTrue (is_ordinary g p) → IsUseBy g image p row place → FitsUse (pfs_byte g image p) place
  pub marked : (p : ℕ) → p < length image → IsTrue (is_ordinary g p) → IsMarked g image row (p / 8) → FitsMark (pfs_byte g image p)
  pub pages : HasCleanPages g image row
