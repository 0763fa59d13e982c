-- Which objects mark an extent (Pages and Extents Architecture Guide).
use Rattle.std.specs.Prelude.{◌≡◌, ℕ, ◌/◌, ◌%◌, IsTrue, List, Contains}
use Rattle.std.specs.List.Sorted.{IsStrictlySortedBy}
use Rattle.std.specs.Ordering.{nat_cmp}
use Rattle.spec_file.specs.declared.geometry.Geometry.{Geometry}
use Rattle.spec_file.specs.Image.{Image, page}
use Rattle.spec_file.specs.Places.{interval_size}
use Rattle.spec_file.specs.CatalogRows.{CatalogRow}
use Rattle.spec_file.specs.Iam.{iam_interval, iam_mark}
use Rattle.spec_chain.specs.Chains.{IsObject, pointer, IsChainPage}

-- the k-th page of the chain speaks of the extent's interval, and marks the extent
abbrev pub MarksAt : Geometry → Image → CatalogRow → ℕ → ℕ → Type 0
MarksAt g image row k e =
    IsChainPage g image row k × (iam_interval (page image (pointer image row k)) ≡ e / interval_size g)
    × IsTrue (iam_mark (page image (pointer image row k)) (e % interval_size g))

-- a page of the object's chain marks the extent
abbrev pub IsMarked : Geometry → Image → CatalogRow → ℕ → Type 0
IsMarked g image row e = (k : ℕ) × MarksAt g image row k e

-- an object of this id marks the extent
abbrev pub IsMarker : Geometry → Image → ℕ → ℕ → Type 0
IsMarker g image e o = (row : CatalogRow) × IsObject image row × (row.id ≡ o) × IsMarked g image row e

-- the ids of the objects that mark an extent, rising
pub record AreMarkers (g : Geometry) (image : Image) (e : ℕ) (ids : List ℕ) : Type 0 where
  pub sorted : IsStrictlySortedBy nat_cmp ids
  pub sound : (o : ℕ) → Contains ids o → IsMarker g image e o
  pub complete : (o : ℕ) → IsMarker g image e o → Contains ids o

-- some object marks the extent
abbrev pub HasMarker : Geometry → Image → ℕ → Type 0
HasMarker g image e = (o : ℕ) × IsMarker g image e o
