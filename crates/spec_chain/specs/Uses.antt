-- Which objects use a page: by a single-page slot that holds it, or as a page of their chain (Pages and
-- Extents Architecture Guide; the order of uses is this project's own).
use Rattle.std.specs.Prelude.{◌≡◌, ◌⊎◌, ℕ, zero, ◌<◌, ◌/◌, Bool, IsTrue, List, length, slice_index, Contains}
use Rattle.std.specs.List.Sorted.{IsStrictlySortedBy}
use Rattle.std.specs.Ordering.{nat_cmp, on, then_cmp}
use Rattle.std.specs.declared.cmp.Ordering.{Ordering}
use Rattle.spec_file.specs.declared.geometry.Geometry.{Geometry}
use Rattle.spec_file.specs.Image.{Image, page}
use Rattle.spec_file.specs.Places.{pfs_place, is_inside}
use Rattle.spec_file.specs.Pfs.{is_allocated_byte}
use Rattle.spec_file.specs.CatalogRows.{CatalogRow}
use Rattle.spec_file.specs.Iam.{single_slot_count, iam_slot}
use Rattle.spec_chain.specs.Chains.{IsObject, pointer, IsChainPage, IsInChain}
use Rattle.spec_chain.specs.Marks.{IsMarked}

-- slot i of an object: only the slots of its chain's first page count
abbrev pub IsSlot : Geometry → Image → CatalogRow → ℕ → ℕ → Type 0
IsSlot g image row i q =
    (i < single_slot_count) × IsChainPage g image row zero × (iam_slot (page image (pointer image row zero)) i ≡ q)

-- the slot holds a page of the file
abbrev pub HoldsPage : Geometry → Image → CatalogRow → ℕ → ℕ → Type 0
HoldsPage g image row i p = IsSlot g image row i p × IsTrue (is_inside (length image) p)

-- a use of a page: the object, and the slot that holds the page; 8 for a page of the chain
pub record Use : Type 0 where
  pub object : ℕ
  pub place : ℕ

-- uses are ordered by object, then by slot, an IAM page last
abbrev pub use_cmp : Use → Use → Ordering
use_cmp = then_cmp (on (λ u. u.object) nat_cmp) (on (λ u. u.place) nat_cmp)

-- a use of page p by this object
abbrev pub IsUseBy : Geometry → Image → ℕ → CatalogRow → ℕ → Type 0
IsUseBy g image p row place = HoldsPage g image row place p ⊎ ((place ≡ single_slot_count) × IsInChain g image row p)

abbrev pub IsUse : Geometry → Image → ℕ → Use → Type 0
IsUse g image p u =
    (row : CatalogRow) × IsObject image row × (row.id ≡ u.object) × IsUseBy g image p row u.place

-- the uses of a page, in their order
pub record AreUses (g : Geometry) (image : Image) (p : ℕ) (uses : List Use) : Type 0 where
  pub sorted : IsStrictlySortedBy use_cmp uses
  pub sound : (u : Use) → Contains uses u → IsUse g image p u
  pub complete : (u : Use) → IsUse g image p u → Contains uses u

-- some object uses the page
abbrev pub HasUse : Geometry → Image → ℕ → Type 0
HasUse g image p = (u : Use) × IsUse g image p u

-- the PFS byte of a page
abbrev pub pfs_byte : Geometry → Image → ℕ → ℕ
pfs_byte g image p = slice_index (page image (pfs_place g p).page) (pfs_place g p).at

-- PFS: the page is allocated
abbrev pub is_allocated : Geometry → Image → ℕ → Bool
is_allocated g image p = is_allocated_byte (pfs_byte g image p)

-- a page allocated to an object: one in a single-page slot, or an allocated page of an extent that the
-- object marks
abbrev pub IsAllocatedTo : Geometry → Image → CatalogRow → ℕ → Type 0
IsAllocatedTo g image row p =
    ((i : ℕ) × HoldsPage g image row i p)
    ⊎ ((p < length image) × IsMarked g image row (p / 8) × IsTrue (is_allocated g image p))
