-- Each step of allocation is on its object alone, and leaves clean maps and chains clean.
use Rattle.std.specs.Prelude.{◌≡◌, ℕ, ◌*◌, ◌<◌, true, length}
use Rattle.spec_file.specs.declared.geometry.Geometry.{Geometry}
use Rattle.spec_file.specs.Image.{Image}
use Rattle.spec_file.specs.CatalogRows.{CatalogRow}
use Rattle.spec_file.specs.Places.{HasShape, is_free, extent_count}
use Rattle.spec_clean.specs.CleanFiles.{HasCleanMaps}
use Rattle.spec_steps.specs.Acts.{StaysClean}
use Rattle.spec_steps.specs.Taking.{IsTakeable, PutsIntoSlot, ChangesSinglePage, ChangesMarkedPage, MarksExtent, GrowsChain}
use Rattle.spec_steps.specs.Freeing.{FreesSingle, FreesLast}
use Rattle.spec_steps.specs.Sgam.{HasExactSgam, IsAllocationStep}

-- the first page of a free extent can be taken as a single page
abbrev pub FreeIsTakeable : Type 0
FreeIsTakeable = (g : Geometry) (image : Image) (e : ℕ) → HasShape g (length image) → HasCleanMaps g image → e < extent_count image
    → is_free g image e ≡ true → IsTakeable g image (8 * e)

-- each step of allocation leaves SGAM exact
abbrev pub SgamStaysExact : Type 0
SgamStaysExact = (g : Geometry) (image image' : Image) (row : CatalogRow) → HasShape g (length image) → HasCleanMaps g image
    → IsAllocationStep g image image' row → HasExactSgam g image → HasExactSgam g image'

-- a single page is put into a slot
abbrev pub SlotStaysClean : Type 0
SlotStaysClean = (g : Geometry) (image image' : Image) (row : CatalogRow) (slot p : ℕ) → HasShape g (length image) → HasCleanMaps g image
    → PutsIntoSlot g image image' row slot p → StaysClean g image image' row.id

-- a page in a slot is filled
abbrev pub SinglePageStaysClean : Type 0
SinglePageStaysClean = (g : Geometry) (image image' : Image) (row : CatalogRow) (p : ℕ) → HasShape g (length image) → HasCleanMaps g image
    → ChangesSinglePage g image image' row p → StaysClean g image image' row.id

-- a page of a marked extent is taken, freed or filled
abbrev pub MarkedPageStaysClean : Type 0
MarkedPageStaysClean = (g : Geometry) (image image' : Image) (row : CatalogRow) (p : ℕ) → HasShape g (length image) → HasCleanMaps g image
    → ChangesMarkedPage g image image' row p → StaysClean g image image' row.id

-- an extent is marked
abbrev pub MarkStaysClean : Type 0
MarkStaysClean = (g : Geometry) (image image' : Image) (row : CatalogRow) (k e p : ℕ) → HasShape g (length image) → HasCleanMaps g image
    → MarksExtent g image image' row k e p → StaysClean g image image' row.id

-- a chain grows
abbrev pub GrowthStaysClean : Type 0
GrowthStaysClean = (g : Geometry) (image image' : Image) (row : CatalogRow) (last p : ℕ) → HasShape g (length image) → HasCleanMaps g image
    → GrowsChain g image image' row last p → StaysClean g image image' row.id

-- a single page is freed
abbrev pub FreedSingleStaysClean : Type 0
FreedSingleStaysClean = (g : Geometry) (image image' : Image) (row : CatalogRow) (p : ℕ) → HasShape g (length image) → HasCleanMaps g image
    → FreesSingle g image image' row p → StaysClean g image image' row.id

-- the last page of a marked extent is freed
abbrev pub FreedLastStaysClean : Type 0
FreedLastStaysClean = (g : Geometry) (image image' : Image) (row : CatalogRow) (p : ℕ) → HasShape g (length image) → HasCleanMaps g image
    → FreesLast g image image' row p → StaysClean g image image' row.id
