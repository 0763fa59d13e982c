-- Steps that take pages for an object (Pages and Extents Architecture Guide; what is written is this project's own).
use Rattle.std.specs.Prelude.{◌≡◌, ◌≢◌, ◌⊎◌, ◌↔◌, ℕ, zero, suc, ◌/◌, ◌%◌, ◌<◌, true, false, IsTrue, length}
use Rattle.spec_file.specs.declared.geometry.Geometry.{Geometry}
use Rattle.spec_file.specs.declared.pfs.PfsKind.{PfsKind}
use Rattle.spec_file.specs.declared.pfs.PfsKind.TheVariants.{Iam, Single, Uniform}
use Rattle.spec_file.specs.Image.{Image, page}
use Rattle.spec_file.specs.Places.{is_free, is_mixed, interval_size, extent_count}
use Rattle.spec_file.specs.Roles.{is_ordinary}
use Rattle.spec_file.specs.CatalogRows.{CatalogRow}
use Rattle.spec_file.specs.Iam.{single_slot_count, iam_interval, iam_slot}
use Rattle.spec_chain.specs.Chains.{IsObject, pointer, IsChainPage, HasLength}
use Rattle.spec_chain.specs.Marks.{IsMarked}
use Rattle.spec_chain.specs.Uses.{HoldsPage, pfs_byte, is_allocated}
use Rattle.spec_extents.specs.Extents.{Fits, FitsMark}
use Rattle.spec_steps.specs.AtMost.{AtMost, free_bit, byte_of, page_of, either, maps_of}
use Rattle.spec_steps.specs.IamPages.{IsSlotSet, IsMarkSet, IsNextSet, IsLastIam}

-- an ordinary page of the extent isn't allocated
abbrev pub HasOpenPage : Geometry → Image → ℕ → Type 0
HasOpenPage g image e = (p : ℕ) × (p / 8 ≡ e) × IsTrue (is_ordinary g p) × (is_allocated g image p ≡ false)

-- page p can be taken as a single page: nobody has it, and its extent is mixed or free
pub record IsTakeable (g : Geometry) (image : Image) (p : ℕ) : Type 0 where
  pub inside : p < length image
  pub ordinary : IsTrue (is_ordinary g p)
  pub unallocated : is_allocated g image p ≡ false
  pub extent : (is_mixed g image (p / 8) ≡ true) ⊎ (is_free g image (p / 8) ≡ true)

-- what the maps say of it once it is taken: its extent isn't free, and is mixed exactly where a page is left to take.
-- No rule of the check asks for the latter.
pub record IsTakenAs (g : Geometry) (image : Image) (p : ℕ) (kind : PfsKind) : Type 0 where
  pub free : is_free g image (p / 8) ≡ false
  pub mixed : IsTrue (is_mixed g image (p / 8)) ↔ HasOpenPage g image (p / 8)
  pub byte : Fits (pfs_byte g image p) kind

-- what the rules of the check ask of it then
pub record IsHeldAs (g : Geometry) (image : Image) (p : ℕ) (kind : PfsKind) : Type 0 where
  pub free : is_free g image (p / 8) ≡ false
  pub byte : Fits (pfs_byte g image p) kind

-- a single page is put into an empty slot of the object
pub record PutsIntoSlot (g : Geometry) (image image' : Image) (row : CatalogRow) (slot p : ℕ) : Type 0 where
  pub object : IsObject image row
  pub first : IsChainPage g image row zero
  pub within : slot < single_slot_count
  pub empty : iam_slot (page image row.first_iam) slot ≡ 0
  pub takeable : IsTakeable g image p
  pub most : AtMost g (either (maps_of p) (either (page_of p) (page_of row.first_iam))) image image'
  pub taken : IsHeldAs g image' p Single
  pub put : IsSlotSet slot p (page image row.first_iam) (page image' row.first_iam)

-- a page in a slot of the object is filled: only its PFS byte and its own bytes change
pub record ChangesSinglePage (g : Geometry) (image image' : Image) (row : CatalogRow) (p : ℕ) : Type 0 where
  pub object : IsObject image row
  pub slot : ℕ
  pub holds : HoldsPage g image row slot p
  pub ordinary : IsTrue (is_ordinary g p)
  pub most : AtMost g (either (byte_of p) (page_of p)) image image'
  pub byte : Fits (pfs_byte g image' p) Single

-- a page of an extent that the object marks is taken, freed or filled: only its PFS byte and its own bytes change
pub record ChangesMarkedPage (g : Geometry) (image image' : Image) (row : CatalogRow) (p : ℕ) : Type 0 where
  pub object : IsObject image row
  pub inside : p < length image
  pub ordinary : IsTrue (is_ordinary g p)
  pub marked : IsMarked g image row (p / 8)
  pub most : AtMost g (either (byte_of p) (page_of p)) image image'
  pub byte : FitsMark (pfs_byte g image' p)

-- the k-th page of the object's chain marks a free extent e of its interval, of which page p is taken
pub record MarksExtent (g : Geometry) (image image' : Image) (row : CatalogRow) (k e p : ℕ) : Type 0 where
  pub object : IsObject image row
  pub chain : IsChainPage g image row k
  pub interval : iam_interval (page image (pointer image row k)) ≡ e / interval_size g
  pub inside : e < extent_count image
  pub was_free : is_free g image e ≡ true
  pub at : p / 8 ≡ e
  pub ordinary : IsTrue (is_ordinary g p)
  pub most : AtMost g (either (free_bit e) (either (byte_of p) (either (page_of p) (page_of (pointer image row k))))) image image'
  pub free : is_free g image' e ≡ false
  pub byte : Fits (pfs_byte g image' p) Uniform
  pub mark : IsMarkSet (e % interval_size g) (page image (pointer image row k)) (page image' (pointer image row k))

-- the object's chain, whose last page is its last-th, gets a page more: a single page, of an interval that no page of
-- the chain speaks of
pub record GrowsChain (g : Geometry) (image image' : Image) (row : CatalogRow) (last p : ℕ) : Type 0 where
  pub object : IsObject image row
  pub pages : HasLength g image row (suc last)
  pub takeable : IsTakeable g image p
  pub most : AtMost g (either (maps_of p) (either (page_of p) (page_of (pointer image row last)))) image image'
  pub taken : IsHeldAs g image' p Iam
  pub linked : IsNextSet p (page image (pointer image row last)) (page image' (pointer image row last))
  pub new : IsLastIam g (length image) row.id (pointer image row last) (suc last) p (page image' p)
  pub interval : (k : ℕ) → IsChainPage g image row k → iam_interval (page image (pointer image row k)) ≢ iam_interval (page image' p)
