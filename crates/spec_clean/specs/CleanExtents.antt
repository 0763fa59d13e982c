-- What a clean file shows at one extent, but for the PFS bytes for which an object answers.
use Rattle.std.specs.Prelude.{◌≡◌, ℕ, ◌/◌, false, IsTrue, Some}
use Rattle.spec_file.specs.declared.geometry.Geometry.{Geometry}
use Rattle.spec_file.specs.declared.pfs.PfsKind.{PfsKind}
use Rattle.spec_file.specs.Roles.{role_of, is_ordinary, is_system_extent}
use Rattle.spec_chain.specs.Uses.{Use}
use Rattle.spec_check.specs.Pages.{kind_of_role}
use Rattle.spec_extents.specs.Extents.{Extent, IsUsed, IsMarked, HoldsUse, IsMixed, Fits}

-- page p has at most one use, and the PFS byte that its role wants; 0 where nobody owns it
pub record IsCleanPage (g : Geometry) (extent : Extent) (p : ℕ) : Type 0 where
  pub role : (kind : PfsKind) → kind_of_role (role_of g p) ≡ Some kind → Fits (extent.byte p) kind
  pub one : (u v : Use) → extent.uses p u → extent.uses p v → u ≡ v
  pub unowned : IsTrue (is_ordinary g p) → (IsUsed extent p → ⊥) → (IsMarked extent → ⊥) → extent.byte p ≡ 0

-- extent e has exactly one claim, of the system, the free space, single pages or one object; and its pages are clean
pub record IsCleanExtent (g : Geometry) (e : ℕ) (extent : Extent) : Type 0 where
  pub one_map : IsTrue extent.free → IsTrue extent.mixed → ⊥
  pub one_marker : (o q : ℕ) → extent.marks o → extent.marks q → o ≡ q
  pub claimed : extent.free ≡ false → extent.mixed ≡ false → is_system_extent g e ≡ false → (HoldsUse e extent → ⊥)
      → (IsMarked extent → ⊥) → ⊥
  pub system_free : IsTrue (is_system_extent g e) → IsTrue extent.free → ⊥
  pub system_mixed : IsTrue (is_system_extent g e) → IsMixed e extent → ⊥
  pub system_marked : IsTrue (is_system_extent g e) → IsMarked extent → ⊥
  pub free_mixed : IsTrue extent.free → IsMixed e extent → ⊥
  pub free_marked : IsTrue extent.free → IsMarked extent → ⊥
  pub mixed_marked : IsMixed e extent → IsMarked extent → ⊥
  pub pages : (p : ℕ) → p / 8 ≡ e → IsCleanPage g extent p
