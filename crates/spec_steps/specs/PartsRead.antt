-- What each part of a clean file reads (the cut is this project's own).
use Rattle.std.specs.Prelude.{◌≡◌, ◌≢◌, ◌⊎◌, ◌↔◌, ℕ, ◌/◌, ◌<◌, false, IsTrue, length, Some}
use Rattle.spec_file.specs.declared.geometry.Geometry.{Geometry}
use Rattle.spec_file.specs.declared.data.Resource.{Resource}
use Rattle.spec_file.specs.declared.data.Resource.TheVariants.{Catalog, Table, Extent, Byte, Page}
use Rattle.spec_file.specs.Image.{Image, page}
use Rattle.spec_file.specs.Header.{says}
use Rattle.spec_file.specs.Places.{is_free, is_mixed, extent_count}
use Rattle.spec_file.specs.Roles.{role_of, system_type, is_ordinary}
use Rattle.spec_file.specs.CatalogRows.{CatalogRow}
use Rattle.spec_chain.specs.Chains.{IsObject}
use Rattle.spec_chain.specs.Marks.{IsMarker, HasMarker}
use Rattle.spec_chain.specs.Uses.{Use, IsUse, HasUse, pfs_byte}
use Rattle.spec_steps.specs.Acts.{Owns}
use Rattle.spec_steps.specs.Tables.{Has}

-- the part of the catalog reads page 9, and of each system page its type and its number
pub record ReadsSameCatalog (g : Geometry) (image image' : Image) : Type 0 where
  pub boot : page image' 9 ≡ page image 9
  pub system : (q type : ℕ) → q < length image → system_type (role_of g q) ≡ Some type → says type q (page image' q) ≡ says type q (page image q)

-- the PFS byte of page p is read by the part of its extent: objects may not own the page, or nobody has it
abbrev pub IsOfExtent : Geometry → Image → ℕ → Type 0
IsOfExtent g image p = (is_ordinary g p ≡ false) ⊎ ((HasUse g image p → ⊥) × (HasMarker g image (p / 8) → ⊥))

-- the part of extent e reads its two bits, the uses of its pages, who marks it, and such PFS bytes
pub record ReadsSameExtent (g : Geometry) (image image' : Image) (e : ℕ) : Type 0 where
  pub free : is_free g image' e ≡ is_free g image e
  pub mixed : is_mixed g image' e ≡ is_mixed g image e
  pub uses : (p : ℕ) → p / 8 ≡ e → (u : Use) → IsUse g image' p u ↔ IsUse g image p u
  pub marks : (o : ℕ) → IsMarker g image' e o ↔ IsMarker g image e o
  pub bytes : (p : ℕ) → p / 8 ≡ e → IsOfExtent g image p → pfs_byte g image' p ≡ pfs_byte g image p

-- of an object are read the pages of its chain and those allocated to it, and the PFS bytes of all pages that it uses or
-- whose extent it marks
pub record ReadsSameObject (g : Geometry) (image image' : Image) (row : CatalogRow) : Type 0 where
  pub pages : (p : ℕ) → Has g image row p → p < length image → IsTrue (is_ordinary g p) → page image' p ≡ page image p
  pub bytes : (p : ℕ) → Owns g image row p → p < length image → pfs_byte g image' p ≡ pfs_byte g image p

-- the part of table o reads the entry of the object of this id, and that of it
pub record ReadsSameTable (g : Geometry) (image image' : Image) (o : ℕ) : Type 0 where
  pub rows : (row : CatalogRow) → row.id ≡ o → IsObject image' row ↔ IsObject image row
  pub owned : (row : CatalogRow) → IsObject image row → row.id ≡ o → ReadsSameObject g image image' row

-- the part of this resource reads the same in both images
abbrev pub ReadsSame : Geometry → Image → Image → Resource → Type 0
ReadsSame g image image' Catalog = ReadsSameCatalog g image image'
ReadsSame g image image' (Extent e) = e.0 < extent_count image → ReadsSameExtent g image image' e.0
ReadsSame g image image' (Table o) = ReadsSameTable g image image' o.0
ReadsSame g image image' (Byte p) = Unit {0}
ReadsSame g image image' (Page p) = Unit {0}

-- of every extent but those that are touched, and of every table but that of this id, the same is read
pub record LeavesParts (g : Geometry) (image image' : Image) (o : ℕ) (touched : ℕ → Type 0) : Type 0 where
  pub extents : (e : ℕ) → e < extent_count image → (touched e → ⊥) → ReadsSameExtent g image image' e
  pub tables : (n : ℕ) → n ≢ o → ReadsSameTable g image image' n

-- and of the catalog
pub record LeavesAllParts (g : Geometry) (image image' : Image) (o : ℕ) (touched : ℕ → Type 0) : Type 0 where
  pub parts : LeavesParts g image image' o touched
  pub catalog : ReadsSameCatalog g image image'
