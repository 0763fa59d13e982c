-- CREATE of a heap and DROP leave a clean file clean.
use Rattle.std.specs.Prelude.{◌≡◌, ◌⊎◌, ℕ, ◌/◌, length}
use Rattle.spec_file.specs.declared.geometry.Geometry.{Geometry}
use Rattle.spec_file.specs.declared.data.Kind.TheVariants.{Heap}
use Rattle.spec_file.specs.declared.pfs.PfsKind.TheVariants.{Iam}
use Rattle.spec_file.specs.Image.{Image}
use Rattle.spec_file.specs.CatalogRows.{CatalogRow}
use Rattle.spec_file.specs.Places.{HasShape}
use Rattle.spec_chain.specs.Marks.{IsMarked}
use Rattle.spec_clean.specs.CleanFiles.{HasCleanMaps, IsClean}
use Rattle.spec_steps.specs.Acts.{StaysClean}
use Rattle.spec_steps.specs.Sgam.{HasExactSgam}
use Rattle.spec_steps.specs.PartsRead.{LeavesParts}
use Rattle.spec_steps.specs.Taking.{IsTakenAs}
use Rattle.spec_steps.specs.Tables.{UsesOf, CreatesObject, DropsObject}

-- CREATE of an object of either kind leaves maps and chains clean; of a clustered table the root is still missing then
abbrev pub CreateKeepsMaps : Type 0
CreateKeepsMaps = (g : Geometry) (image image' : Image) (row : CatalogRow) (p : ℕ) → HasShape g (length image) → HasCleanMaps g image
    → CreatesObject g image image' row p → StaysClean g image image' row.id

-- of a heap it leaves the whole file clean
abbrev pub CreateKeepsClean : Type 0
CreateKeepsClean = (g : Geometry) (image image' : Image) (row : CatalogRow) (p : ℕ) → HasShape g (length image) → IsClean g image
    → CreatesObject g image image' row p → row.kind ≡ Heap → IsClean g image'

-- and SGAM exact, where its page is taken so
abbrev pub CreateKeepsSgam : Type 0
CreateKeepsSgam = (g : Geometry) (image image' : Image) (row : CatalogRow) (p : ℕ) → HasShape g (length image) → HasCleanMaps g image
    → CreatesObject g image image' row p → IsTakenAs g image' p Iam → HasExactSgam g image → HasExactSgam g image'

-- the parts of other tables, and of other extents than that of its page, read the same
abbrev pub CreateLeavesParts : Type 0
CreateLeavesParts = (g : Geometry) (image image' : Image) (row : CatalogRow) (p : ℕ) → HasShape g (length image) → HasCleanMaps g image
    → CreatesObject g image image' row p → LeavesParts g image image' row.id (λ e. e ≡ p / 8)

-- DROP leaves maps and chains clean
abbrev pub DropKeepsMaps : Type 0
DropKeepsMaps = (g : Geometry) (image image' : Image) (row : CatalogRow) → HasShape g (length image) → HasCleanMaps g image
    → DropsObject g image image' row → StaysClean g image image' row.id

-- and the whole file
abbrev pub DropKeepsClean : Type 0
DropKeepsClean = (g : Geometry) (image image' : Image) (row : CatalogRow) → HasShape g (length image) → IsClean g image
    → DropsObject g image image' row → IsClean g image'

-- and SGAM exact
abbrev pub DropKeepsSgam : Type 0
DropKeepsSgam = (g : Geometry) (image image' : Image) (row : CatalogRow) → HasShape g (length image) → HasCleanMaps g image
    → DropsObject g image image' row → HasExactSgam g image → HasExactSgam g image'

-- and the parts of other tables, and of extents that the object neither marks nor uses a page of, read the same
abbrev pub DropLeavesParts : Type 0
DropLeavesParts = (g : Geometry) (image image' : Image) (row : CatalogRow) → HasShape g (length image) → HasCleanMaps g image
    → DropsObject g image image' row → LeavesParts g image image' row.id (λ e. IsMarked g image row e ⊎ UsesOf g image row e)
