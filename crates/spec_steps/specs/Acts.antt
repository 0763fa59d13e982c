-- A step on one object: what it leaves to all others.
use Rattle.std.specs.Prelude.{◌≡◌, ◌≢◌, ◌⊎◌, ◌↔◌, ℕ, ◌/◌, ◌<◌, IsTrue, length, Some}
use Rattle.spec_file.specs.declared.geometry.Geometry.{Geometry}
use Rattle.spec_file.specs.Image.{Image, page}
use Rattle.spec_file.specs.Header.{says}
use Rattle.spec_file.specs.Roles.{role_of, system_type, is_ordinary}
use Rattle.spec_file.specs.Catalog.{PassesCatalog}
use Rattle.spec_file.specs.CatalogRows.{CatalogRow}
use Rattle.spec_chain.specs.Chains.{IsObject, pointer, IsChainPage, HasPages}
use Rattle.spec_chain.specs.Marks.{IsMarked}
use Rattle.spec_chain.specs.Uses.{IsUseBy, IsAllocatedTo, pfs_byte}
use Rattle.spec_check.specs.declared.report.CheckError.{CheckError}
use Rattle.spec_tables.specs.Seen.{IsSeen}
use Rattle.spec_tables.specs.PageRules.{IsErrorOf}
use Rattle.spec_clean.specs.CleanFiles.{HasCleanMaps}

-- the object uses the page, or marks its extent
abbrev pub Owns : Geometry → Image → CatalogRow → ℕ → Type 0
Owns g image row p = ((place : ℕ) × IsUseBy g image p row place) ⊎ IsMarked g image row (p / 8)

-- system pages say what they said, the catalog still passes its test, and every object but o keeps its entry, the
-- pages that it owns, and their PFS bytes
pub record Acts (g : Geometry) (image image' : Image) (o : ℕ) : Type 0 where
  pub size : length image' ≡ length image
  pub system : (q type : ℕ) → q < length image → system_type (role_of g q) ≡ Some type → says type q (page image' q) ≡ says type q (page image q)
  pub catalog : PassesCatalog (page image 9) → PassesCatalog (page image' 9)
  pub rows : (row : CatalogRow) → row.id ≢ o → IsObject image' row ↔ IsObject image row
  pub pages : (row : CatalogRow) (p : ℕ) → IsObject image row → row.id ≢ o → Owns g image row p → p < length image
      → IsTrue (is_ordinary g p) → page image' p ≡ page image p
  pub bytes : (row : CatalogRow) (p : ℕ) → IsObject image row → row.id ≢ o → Owns g image row p → p < length image
      → pfs_byte g image' p ≡ pfs_byte g image p

-- an object has the same chain, uses and marks, the same pages are allocated to it and seen of it, and the same is
-- wrong with them
pub record IsKept (g : Geometry) (image image' : Image) (row : CatalogRow) : Type 0 where
  pub chain : (k : ℕ) → IsChainPage g image' row k ↔ IsChainPage g image row k
  pub pointers : (k : ℕ) → HasPages g image row k → pointer image' row k ≡ pointer image row k
  pub uses : (p place : ℕ) → IsUseBy g image' p row place ↔ IsUseBy g image p row place
  pub marks : (e : ℕ) → IsMarked g image' row e ↔ IsMarked g image row e
  pub allocated : (p : ℕ) → IsAllocatedTo g image' row p ↔ IsAllocatedTo g image row p
  pub seen : (p : ℕ) → IsSeen g image' row p ↔ IsSeen g image row p
  pub errors : (p : ℕ) (x : CheckError) → IsAllocatedTo g image row p → IsErrorOf g image' row p x ↔ IsErrorOf g image row p x

-- every other object keeps all that
abbrev pub LeavesOthers : Geometry → Image → Image → CatalogRow → Type 0
LeavesOthers g image image' row = (other : CatalogRow) → IsObject image other → other.id ≢ row.id → IsKept g image image' other

-- a step on object o leaves the others theirs, and the maps and chains clean
pub record StaysClean (g : Geometry) (image image' : Image) (o : ℕ) : Type 0 where
  pub acts : Acts g image image' o
  pub maps : HasCleanMaps g image'
