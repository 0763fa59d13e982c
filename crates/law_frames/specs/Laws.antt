-- A step on one object leaves all other objects as they were.
use Rattle.std.specs.Prelude.{◌≡◌, ◌≢◌, ℕ, length}
use Rattle.spec_file.specs.declared.geometry.Geometry.{Geometry}
use Rattle.spec_file.specs.declared.data.Resource.{Resource}
use Rattle.spec_file.specs.Image.{Image}
use Rattle.spec_file.specs.CatalogRows.{CatalogRow}
use Rattle.spec_file.specs.Places.{HasShape}
use Rattle.spec_chain.specs.Chains.{IsObject}
use Rattle.spec_check.specs.declared.report.CheckError.{CheckError}
use Rattle.spec_check.specs.Chains.{IsErrorOfChain}
use Rattle.spec_clean.specs.CleanTables.{HasCleanPages, IsCleanTable}
use Rattle.spec_clean.specs.CleanFiles.{IsCleanPart, HasCleanMaps, IsClean}
use Rattle.spec_steps.specs.Acts.{Acts, IsKept, StaysClean}
use Rattle.spec_steps.specs.PartsRead.{ReadsSame}

-- another object whose chain has no error keeps its chain, uses and marks, and its pages with what is wrong with them
abbrev pub OthersAreKept : Type 0
OthersAreKept = (g : Geometry) (image image' : Image) (o : ℕ) (row : CatalogRow) → Acts g image image' o → IsObject image row → row.id ≢ o
    → ((x : CheckError) → IsErrorOfChain g image row x → ⊥) → IsKept g image image' row

-- and a clean table stays clean
abbrev pub OthersStayClean : Type 0
OthersStayClean = (g : Geometry) (image image' : Image) (o : ℕ) (row : CatalogRow) → Acts g image image' o → IsObject image row → row.id ≢ o
    → IsCleanTable g image row → IsCleanTable g image' row

-- the part of a resource is clean where it was and what it reads is the same
abbrev pub PartIsWhatItReads : Type 0
PartIsWhatItReads = (g : Geometry) (image image' : Image) (resource : Resource) → HasShape g (length image) → length image' ≡ length image
    → ReadsSame g image image' resource → IsCleanPart g image resource → IsCleanPart g image' resource

-- two steps on one object, one after another, are a step on it, from clean maps on
abbrev pub StepsAreOne : Type 0
StepsAreOne = (g : Geometry) (image image' image'' : Image) (o : ℕ) → HasCleanMaps g image → StaysClean g image image' o
    → StaysClean g image' image'' o → StaysClean g image image'' o

-- a clean file stays clean where the step leaves maps and chains clean, and the pages of its own object
abbrev pub FileStaysClean : Type 0
FileStaysClean = (g : Geometry) (image image' : Image) (o : ℕ) → HasShape g (length image) → IsClean g image → StaysClean g image image' o
    → ((row : CatalogRow) → IsObject image' row → row.id ≡ o → HasCleanPages g image' row) → IsClean g image'
