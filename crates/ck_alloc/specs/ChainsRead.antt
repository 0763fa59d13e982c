-- What the chains of all objects give.
use Rattle.std.specs.Prelude.{◌≡◌, ◌↔◌, ◌⊎◌, ℕ, ◌<◌, ◌≤◌, Bool, false, IsTrue, List, [], length, slice_get, Option, Some}
use Rattle.spec_file.specs.declared.geometry.Geometry.{Geometry}
use Rattle.spec_file.specs.Image.{Image}
use Rattle.spec_file.specs.CatalogRows.{CatalogRow}
use Rattle.spec_chain.specs.Marks.{IsMarked}
use Rattle.spec_check.specs.declared.report.CheckError.{CheckError}
use Rattle.spec_check.specs.Chains.{IsErrorOfChain}
use Rattle.ck_error.specs.Gathered.{Adds}
use Rattle.ck_facts.specs.declared.map.PageUse.{PageUse}
use Rattle.ck_facts.specs.declared.map.ExtentMap.{ExtentMap}
use Rattle.ck_facts.specs.Maps.{has_mark}
use Rattle.ck_chain.specs.declared.found.Found.{Found}
use Rattle.ck_chain.specs.Walks.{IsUseOf}

-- an extent with these map bits and no mark
pub record IsBare (free mixed : Option Bool) (x : ExtentMap) : Type 0 where
  pub free_is : free ≡ Some x.free
  pub mixed_is : mixed ≡ Some x.mixed
  pub marks : (i : ℕ) → i < 128 → has_mark x i ≡ false

pub record AreBare (free mixed : List Bool) (extents : List ExtentMap) : Type 0 where
  pub each : (e : ℕ) (x : ExtentMap) → slice_get extents e ≡ Some x → IsBare (slice_get free e) (slice_get mixed e) x

-- the i-th of the first n objects
abbrev pub IsRowBelow : List CatalogRow → ℕ → ℕ → CatalogRow → Type 0
IsRowBelow rows n i row = (i < n) × (slice_get rows i ≡ Some row)

abbrev pub ChainError : Geometry → Image → List CatalogRow → ℕ → CheckError → Type 0
ChainError g image rows n x = (i : ℕ) × (row : CatalogRow) × IsRowBelow rows n i row × IsErrorOfChain g image row x

abbrev pub ChainUse : Geometry → Image → List CatalogRow → ℕ → PageUse → Type 0
ChainUse g image rows n u = (i : ℕ) × (row : CatalogRow) × IsRowBelow rows n i row × IsUseOf g image row u

-- an extent with the marks of the first n objects
pub record IsMarkedByFirst (g : Geometry) (image : Image) (rows : List CatalogRow) (n e : ℕ) (x y : ExtentMap) : Type 0 where
  pub free : y.free ≡ x.free
  pub mixed : y.mixed ≡ x.mixed
  pub done : (i : ℕ) (row : CatalogRow) → IsRowBelow rows n i row → IsTrue (has_mark y i) ↔ (IsTrue (has_mark x i) ⊎ IsMarked g image row e)
  pub left : (i : ℕ) → n ≤ i → has_mark y i ≡ has_mark x i

-- what the chains of the first n objects give
pub record AreChainsRead (g : Geometry) (image : Image) (rows : List CatalogRow) (n : ℕ) (old new : Found) : Type 0 where
  pub errors : Adds old.errors.items new.errors.items (ChainError g image rows n)
  pub uses : Adds old.uses.items new.uses.items (ChainUse g image rows n)
  pub count : length new.extents.items ≡ length old.extents.items
  pub extents : (e : ℕ) (x y : ExtentMap) → slice_get old.extents.items e ≡ Some x → slice_get new.extents.items e ≡ Some y
      → IsMarkedByFirst g image rows n e x y

-- all that the chains of the objects give, from these map bits on
pub record IsFoundIn (g : Geometry) (image : Image) (rows : List CatalogRow) (free mixed : List Bool) (found : Found) : Type 0 where
  pub start : Found
  pub errors : start.errors.items ≡ []
  pub uses : start.uses.items ≡ []
  pub bare : AreBare free mixed start.extents.items
  pub count : length start.extents.items ≡ length free
  pub read : AreChainsRead g image rows (length rows) start found
