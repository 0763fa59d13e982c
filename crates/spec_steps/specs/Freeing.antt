-- Steps that free a page of an object (Pages and Extents Architecture Guide; what is written is this project's own).
use Rattle.std.specs.Prelude.{◌≡◌, ◌⊎◌, ℕ, ◌/◌, ◌%◌, ◌<◌, true, IsTrue, length}
use Rattle.spec_file.specs.declared.geometry.Geometry.{Geometry}
use Rattle.spec_file.specs.Image.{Image, page}
use Rattle.spec_file.specs.Places.{is_free, interval_size}
use Rattle.spec_file.specs.Roles.{is_ordinary}
use Rattle.spec_file.specs.CatalogRows.{CatalogRow}
use Rattle.spec_chain.specs.Chains.{IsObject, IsInChain}
use Rattle.spec_chain.specs.Marks.{IsMarked}
use Rattle.spec_chain.specs.Uses.{HoldsPage, pfs_byte, is_allocated}
use Rattle.spec_extents.specs.Extents.{extent_of}
use Rattle.spec_extents.specs.Changes.{IsStillShared, IsEmptied}
use Rattle.spec_steps.specs.AtMost.{Changed, AtMost, free_bit, byte_of, page_of, either, maps_of}
use Rattle.spec_steps.specs.IamPages.{IsOutOfSlots, IsMarkCleared, OnChain}

-- some page of the extent is allocated
abbrev pub HasAllocated : Geometry → Image → ℕ → Type 0
HasAllocated g image e = (p : ℕ) × (p / 8 ≡ e) × IsTrue (is_allocated g image p)

-- what the maps say of an extent of single pages, some of which are given back: it is mixed, or it is free, and then none
-- of its pages is allocated
abbrev pub IsLeftShared : Geometry → Image → ℕ → Type 0
IsLeftShared g image e = IsStillShared (extent_of g image e) ⊎ IsEmptied e (extent_of g image e)

-- a page in a slot of the object is freed: each slot that holds it is empty
pub record FreesSingle (g : Geometry) (image image' : Image) (row : CatalogRow) (p : ℕ) : Type 0 where
  pub object : IsObject image row
  pub slot : ℕ
  pub holds : HoldsPage g image row slot p
  pub ordinary : IsTrue (is_ordinary g p)
  pub most : AtMost g (either (maps_of p) (either (page_of p) (page_of row.first_iam))) image image'
  pub byte : pfs_byte g image' p ≡ 0
  pub left : IsLeftShared g image' (p / 8)
  pub out : IsOutOfSlots p (page image row.first_iam) (page image' row.first_iam)

-- the pages of the object's chain
abbrev pub chain_pages : Geometry → Image → CatalogRow → Changed
chain_pages g image row = record { free = λ f. ⊥; mixed = λ f. ⊥; bytes = λ q. ⊥; pages = IsInChain g image row }

-- the last allocated page of an extent that the object marks is freed: no page of its chain marks the extent any more
pub record FreesLast (g : Geometry) (image image' : Image) (row : CatalogRow) (p : ℕ) : Type 0 where
  pub object : IsObject image row
  pub inside : p < length image
  pub ordinary : IsTrue (is_ordinary g p)
  pub marked : IsMarked g image row (p / 8)
  pub most : AtMost g (either (free_bit (p / 8)) (either (byte_of p) (either (page_of p) (chain_pages g image row)))) image image'
  pub byte : pfs_byte g image' p ≡ 0
  pub last : HasAllocated g image' (p / 8) → ⊥
  pub free : is_free g image' (p / 8) ≡ true
  pub cleared : OnChain g image image' row (IsMarkCleared (p / 8 / interval_size g) (p / 8 % interval_size g))
