-- Which pages of an extent objects own, and where the objects stand in a map.
use Rattle.std.specs.Prelude.{◌≡◌, ℕ, ◌/◌, ◌<◌, List, Contains, length, slice_get, slice_index, Some}
use Rattle.std.specs.List.Sorted.{IsStrictlySortedBy}
use Rattle.std.specs.Ordering.{nat_cmp, on, then_cmp}
use Rattle.std.specs.declared.cmp.Ordering.{Ordering}
use Rattle.spec_file.specs.declared.data.PageNo.{PageNo}
use Rattle.spec_file.specs.declared.data.ObjId.{ObjId}
use Rattle.spec_file.specs.declared.geometry.Geometry.{Geometry}
use Rattle.spec_file.specs.Image.{Image}
use Rattle.spec_file.specs.CatalogRows.{CatalogRow}
use Rattle.spec_chain.specs.Chains.{IsObject}
use Rattle.spec_chain.specs.Uses.{IsAllocatedTo}
use Rattle.ck_facts.specs.declared.map.AllocMap.{AllocMap}
use Rattle.ck_facts.specs.Maps.{rows_of_objects}
use Rattle.ck_facts.specs.MapOf.{ids_of}

-- a page, and the id of an object that owns it
abbrev pub Owned : Type 0
Owned = PageNo × ObjId

abbrev pub owned : ℕ → ℕ → Owned
owned p o = (record { 0 = p }, record { 0 = o })

-- owned pages are ordered by page and object
abbrev pub owned_cmp : Owned → Owned → Ordering
owned_cmp = then_cmp (on (λ u. u.0.0) nat_cmp) (on (λ u. u.1.0) nat_cmp)

-- a page of extent e that is allocated to the object named
pub record IsOwnerIn (g : Geometry) (image : Image) (e : ℕ) (u : Owned) : Type 0 where
  pub row : CatalogRow
  pub object : IsObject image row
  pub id : row.id ≡ u.1.0
  pub allocated : IsAllocatedTo g image row u.0.0
  pub extent : u.0.0 / 8 ≡ e

-- the pages of extent e that objects own, each with each of its objects
pub record AreOwnersIn (g : Geometry) (image : Image) (e : ℕ) (owners : List Owned) : Type 0 where
  pub sorted : IsStrictlySortedBy owned_cmp owners
  pub sound : (u : Owned) → Contains owners u → IsOwnerIn g image e u
  pub complete : (u : Owned) → IsOwnerIn g image e u → Contains owners u

-- the i-th object of the map
abbrev pub IsObjectAt : AllocMap → ℕ → CatalogRow → Type 0
IsObjectAt m i row = slice_get (rows_of_objects m.objects.items) i ≡ Some row

-- the objects of the map stand by id
abbrev pub StandById : AllocMap → Type 0
StandById m = IsStrictlySortedBy nat_cmp (ids_of m.objects.items)

-- the i-th object of the map has the id
pub record IsPlaceOf (m : AllocMap) (i id : ℕ) : Type 0 where
  pub inside : i < length m.objects.items
  pub is : slice_index (ids_of m.objects.items) i ≡ id
