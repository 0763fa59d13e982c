-- What each step of allocation leaves of what the parts of a clean file read.
use Rattle.std.specs.Prelude.{◌≡◌, ℕ, ◌/◌, length}
use Rattle.spec_file.specs.declared.geometry.Geometry.{Geometry}
use Rattle.spec_file.specs.Image.{Image}
use Rattle.spec_file.specs.CatalogRows.{CatalogRow}
use Rattle.spec_file.specs.Places.{HasShape}
use Rattle.spec_clean.specs.CleanFiles.{HasCleanMaps}
use Rattle.spec_steps.specs.PartsRead.{LeavesAllParts}
use Rattle.spec_steps.specs.Taking.{PutsIntoSlot, ChangesSinglePage, ChangesMarkedPage, MarksExtent, GrowsChain}
use Rattle.spec_steps.specs.Freeing.{FreesSingle, FreesLast}

-- a single page that is put into a slot touches the parts of its extent and its table
abbrev pub SlotLeavesParts : Type 0
SlotLeavesParts = (g : Geometry) (image image' : Image) (row : CatalogRow) (slot p : ℕ) → HasShape g (length image) → HasCleanMaps g image
    → PutsIntoSlot g image image' row slot p → LeavesAllParts g image image' row.id (λ e. e ≡ p / 8)

-- an extent that is marked touches its own part and that of the table
abbrev pub MarkLeavesParts : Type 0
MarkLeavesParts = (g : Geometry) (image image' : Image) (row : CatalogRow) (k e p : ℕ) → HasShape g (length image) → HasCleanMaps g image
    → MarksExtent g image image' row k e p → LeavesAllParts g image image' row.id (λ f. f ≡ e)

-- a chain that grows touches the parts of its new page's extent and of its table
abbrev pub GrowthLeavesParts : Type 0
GrowthLeavesParts = (g : Geometry) (image image' : Image) (row : CatalogRow) (last p : ℕ) → HasShape g (length image) → HasCleanMaps g image
    → GrowsChain g image image' row last p → LeavesAllParts g image image' row.id (λ e. e ≡ p / 8)

-- a page in a slot, or of a marked extent, that changes with its PFS byte touches the part of its table alone
abbrev pub SinglePageLeavesParts : Type 0
SinglePageLeavesParts = (g : Geometry) (image image' : Image) (row : CatalogRow) (p : ℕ) → HasShape g (length image) → HasCleanMaps g image
    → ChangesSinglePage g image image' row p → LeavesAllParts g image image' row.id (λ e. ⊥)

abbrev pub MarkedPageLeavesParts : Type 0
MarkedPageLeavesParts = (g : Geometry) (image image' : Image) (row : CatalogRow) (p : ℕ) → HasShape g (length image) → HasCleanMaps g image
    → ChangesMarkedPage g image image' row p → LeavesAllParts g image image' row.id (λ e. ⊥)

-- a single page that is freed, and the last page of a marked extent, touch the parts of the extent and of the table
abbrev pub FreedSingleLeavesParts : Type 0
FreedSingleLeavesParts = (g : Geometry) (image image' : Image) (row : CatalogRow) (p : ℕ) → HasShape g (length image) → HasCleanMaps g image
    → FreesSingle g image image' row p → LeavesAllParts g image image' row.id (λ e. e ≡ p / 8)

abbrev pub FreedLastLeavesParts : Type 0
FreedLastLeavesParts = (g : Geometry) (image image' : Image) (row : CatalogRow) (p : ℕ) → HasShape g (length image) → HasCleanMaps g image
    → FreesLast g image image' row p → LeavesAllParts g image image' row.id (λ e. e ≡ p / 8)
