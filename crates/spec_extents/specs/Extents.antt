-- What one extent shows: its two bits, the PFS bytes of its pages, who uses them and who marks it; and when that
-- is good (Pages and Extents Architecture Guide; the exact rules are this project's own).
use Rattle.std.specs.Prelude.{◌≡◌, ◌⊎◌, ℕ, ◌/◌, ◌%◌, ◌<◌, Bool, false, IsTrue, Some}
use Rattle.spec_file.specs.declared.geometry.Geometry.{Geometry}
use Rattle.spec_file.specs.declared.pfs.PfsKind.{PfsKind}
use Rattle.spec_file.specs.declared.pfs.PfsKind.TheVariants as kinds
use Rattle.spec_file.specs.Image.{Image}
use Rattle.spec_file.specs.Pfs.{expected, is_allocated_byte}
use Rattle.spec_file.specs.Places.{is_free, is_mixed, extent_count}
use Rattle.spec_file.specs.Roles.{role_of, is_ordinary, is_system_extent}
use Rattle.spec_chain.specs.Marks.{IsMarker}
use Rattle.spec_chain.specs.Uses.{Use, IsUse, pfs_byte}
use Rattle.spec_check.specs.Pages.{kind_of_role, IsKindOfUse, MayHoldRows}

-- the GAM and the SGAM bit, the PFS byte of each page, the uses of each page, and the objects that mark the extent
pub record Extent : Type 1 where
  pub free : Bool
  pub mixed : Bool
  pub byte : ℕ → ℕ
  pub uses : ℕ → Use → Type 0
  pub marks : ℕ → Type 0

-- what extent e of an image shows
abbrev pub extent_of : Geometry → Image → ℕ → Extent
extent_of g image e = record {
  free = is_free g image e;
  mixed = is_mixed g image e;
  byte = pfs_byte g image;
  uses = IsUse g image;
  marks = IsMarker g image e;
}

-- some object uses the page
abbrev pub IsUsed : Extent → ℕ → Type 0
IsUsed extent p = (u : Use) × extent.uses p u

-- some object marks the extent
abbrev pub IsMarked : Extent → Type 0
IsMarked extent = (o : ℕ) × extent.marks o

-- a page of extent e has a use, or is the boot page
abbrev pub HoldsUse : ℕ → Extent → Type 0
HoldsUse e extent = ((p : ℕ) × (p / 8 ≡ e) × IsUsed extent p) ⊎ (e ≡ 1)

-- single pages claim extent e: it holds a use, or SGAM alone marks it
abbrev pub IsMixed : ℕ → Extent → Type 0
IsMixed e extent = HoldsUse e extent ⊎ (IsTrue extent.mixed × (extent.free ≡ false))

-- a PFS byte is that of a page of this kind; a page that may hold rows has any fullness
pub record Fits (byte : ℕ) (kind : PfsKind) : Type 0 where
  pub flags : byte / 8 ≡ expected kind 0 / 8
  pub fullness : (MayHoldRows kind → ⊥) → byte % 8 ≡ expected kind 0 % 8

-- a PFS byte is that of a page which is used at this place: in a single-page slot, or in a chain
pub record FitsUse (byte place : ℕ) : Type 0 where
  pub kind : PfsKind
  pub is : IsKindOfUse place kind
  pub fits : Fits byte kind

-- a PFS byte is that of a page of an extent that an object marks
pub record FitsMark (byte : ℕ) : Type 0 where
  pub allocated : IsTrue (is_allocated_byte byte) → Fits byte kinds.Uniform
  pub unallocated : is_allocated_byte byte ≡ false → Fits byte kinds.Unused

-- page p has at most one use, and the PFS byte that its role, its use or the mark of its extent wants; 0 where
-- nobody owns it
pub record IsGoodPage (g : Geometry) (extent : Extent) (p : ℕ) : Type 0 where
  pub role : (kind : PfsKind) → kind_of_role (role_of g p) ≡ Some kind → Fits (extent.byte p) kind
  pub one : (u v : Use) → extent.uses p u → extent.uses p v → u ≡ v
  pub used : IsTrue (is_ordinary g p) → (u : Use) → extent.uses p u → FitsUse (extent.byte p) u.place
  pub marked : IsTrue (is_ordinary g p) → IsMarked extent → FitsMark (extent.byte p)
  pub unowned : IsTrue (is_ordinary g p) → (IsUsed extent p → ⊥) → (IsMarked extent → ⊥) → extent.byte p ≡ 0

-- extent e has exactly one claim, of the system, the free space, single pages or one object; and its pages are good
pub record IsGoodExtent (g : Geometry) (e : ℕ) (extent : Extent) : Type 0 where
  pub one_map : IsTrue extent.free → IsTrue extent.mixed → ⊥
  pub one_marker : (o q : ℕ) → extent.marks o → extent.marks q → o ≡ q
  pub claimed : extent.free ≡ false → extent.mixed ≡ false → is_system_extent g e ≡ false → (HoldsUse e extent → ⊥)
      → (IsMarked extent → ⊥) → ⊥
  pub system_free : IsTrue (is_system_extent g e) → IsTrue extent.free → ⊥
  pub system_mixed : IsTrue (is_system_extent g e) → IsMixed e extent → ⊥
  pub system_marked : IsTrue (is_system_extent g e) → IsMarked extent → ⊥
  pub free_mixed : IsTrue extent.free → IsMixed e extent → ⊥
  pub free_marked : IsTrue extent.free → IsMarked extent → ⊥
  pub mixed_marked : IsMixed e extent → IsMarked extent → ⊥
  pub pages : (p : ℕ) → p / 8 ≡ e → IsGoodPage g extent p

-- every extent of the image is good
abbrev pub AreGoodExtents : Geometry → Image → Type 0
AreGoodExtents g image = (e : ℕ) → e < extent_count image → IsGoodExtent g e (extent_of g image e)
