-- What each step of allocation does to the pages that are allocated to its object.
use Rattle.std.specs.Prelude.{◌≡◌, ℕ, false, true, length}
use Rattle.spec_file.specs.declared.geometry.Geometry.{Geometry}
use Rattle.spec_file.specs.Image.{Image}
use Rattle.spec_file.specs.CatalogRows.{CatalogRow}
use Rattle.spec_file.specs.Places.{HasShape}
use Rattle.spec_chain.specs.Uses.{is_allocated}
use Rattle.spec_clean.specs.CleanFiles.{HasCleanMaps}
use Rattle.spec_steps.specs.AllocatedPages.{KeepsPages, GetsPage, GivesPage}
use Rattle.spec_steps.specs.Taking.{PutsIntoSlot, ChangesMarkedPage, MarksExtent, GrowsChain}
use Rattle.spec_steps.specs.Freeing.{FreesSingle, FreesLast}

-- a single page that is put into a slot is one more
abbrev pub SlotGetsPage : Type 0
SlotGetsPage = (g : Geometry) (image image' : Image) (row : CatalogRow) (slot p : ℕ) → HasShape g (length image) → HasCleanMaps g image
    → PutsIntoSlot g image image' row slot p → GetsPage g image image' row p

-- so is a page of a marked extent that becomes allocated
abbrev pub MarkedGetsPage : Type 0
MarkedGetsPage = (g : Geometry) (image image' : Image) (row : CatalogRow) (p : ℕ) → HasShape g (length image) → HasCleanMaps g image
    → ChangesMarkedPage g image image' row p → is_allocated g image p ≡ false → is_allocated g image' p ≡ true → GetsPage g image image' row p

-- and the page that is taken of an extent that is marked
abbrev pub ExtentGetsPage : Type 0
ExtentGetsPage = (g : Geometry) (image image' : Image) (row : CatalogRow) (k e p : ℕ) → HasShape g (length image) → HasCleanMaps g image
    → MarksExtent g image image' row k e p → GetsPage g image image' row p

-- a chain that grows leaves the pages of its object
abbrev pub GrowthKeepsPages : Type 0
GrowthKeepsPages = (g : Geometry) (image image' : Image) (row : CatalogRow) (last p : ℕ) → HasShape g (length image) → HasCleanMaps g image
    → GrowsChain g image image' row last p → KeepsPages g image image' row

-- a single page that is freed is one less
abbrev pub SingleGivesPage : Type 0
SingleGivesPage = (g : Geometry) (image image' : Image) (row : CatalogRow) (p : ℕ) → HasShape g (length image) → HasCleanMaps g image
    → FreesSingle g image image' row p → GivesPage g image image' row p

-- so is a page of a marked extent that was allocated and isn't any more
abbrev pub MarkedGivesPage : Type 0
MarkedGivesPage = (g : Geometry) (image image' : Image) (row : CatalogRow) (p : ℕ) → HasShape g (length image) → HasCleanMaps g image
    → ChangesMarkedPage g image image' row p → is_allocated g image p ≡ true → is_allocated g image' p ≡ false → GivesPage g image image' row p

-- and the last of such an extent, where that was allocated
abbrev pub LastGivesPage : Type 0
LastGivesPage = (g : Geometry) (image image' : Image) (row : CatalogRow) (p : ℕ) → HasShape g (length image) → HasCleanMaps g image
    → FreesLast g image image' row p → is_allocated g image p ≡ true → GivesPage g image image' row p
