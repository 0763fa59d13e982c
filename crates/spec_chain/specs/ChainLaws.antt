-- What follows from the definition of a chain.
use Rattle.std.specs.Prelude.{◌≡◌, ℕ, ◌-◌, ◌<◌, length}
use Rattle.spec_file.specs.declared.geometry.Geometry.{Geometry}
use Rattle.spec_file.specs.Image.{Image}
use Rattle.spec_file.specs.CatalogRows.{CatalogRow}
use Rattle.spec_chain.specs.Chains.{HasPages, HasLength}

-- a chain has one length
abbrev pub ChainHasOneLength : Type 0
ChainHasOneLength = (g : Geometry) (image : Image) (row : CatalogRow) (m n : ℕ)
    → HasLength g image row m → HasLength g image row n → m ≡ n

-- a chain has fewer pages than the file: it meets none twice, and never page 0
abbrev pub ChainIsShort : Type 0
ChainIsShort = (g : Geometry) (image : Image) (row : CatalogRow) (n : ℕ) → 0 < length image → HasPages g image row n → n < length image
