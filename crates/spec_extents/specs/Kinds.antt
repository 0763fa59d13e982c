-- The kinds of good extents that objects take pages of: free, shared by single pages, owned by one object.
use Rattle.std.specs.Prelude.{◌≡◌, ◌≢◌, ◌⊎◌, ℕ, ◌/◌, true, false, IsTrue, Some}
use Rattle.spec_file.specs.declared.geometry.Geometry.{Geometry}
use Rattle.spec_file.specs.declared.pfs.PfsKind.{PfsKind}
use Rattle.spec_file.specs.Roles.{role_of, is_ordinary, is_system_extent}
use Rattle.spec_chain.specs.Uses.{Use}
use Rattle.spec_check.specs.Pages.{kind_of_role}
use Rattle.spec_extents.specs.Extents.{Extent, IsUsed, IsMarked, HoldsUse, Fits, FitsUse, FitsMark}

-- the pages of extent e whose role tells their byte have it
abbrev pub AreRolesGood : Geometry → ℕ → Extent → Type 0
AreRolesGood g e extent = (p : ℕ) → p / 8 ≡ e → (kind : PfsKind) → kind_of_role (role_of g p) ≡ Some kind → Fits (extent.byte p) kind

-- nobody has anything of it
pub record IsFree (g : Geometry) (e : ℕ) (extent : Extent) : Type 0 where
  pub free : extent.free ≡ true
  pub mixed : extent.mixed ≡ false
  pub system : is_system_extent g e ≡ false
  pub boot : e ≢ 1
  pub roles : AreRolesGood g e extent
  pub unused : (p : ℕ) → p / 8 ≡ e → IsUsed extent p → ⊥
  pub unmarked : IsMarked extent → ⊥
  pub bytes : (p : ℕ) → p / 8 ≡ e → IsTrue (is_ordinary g p) → extent.byte p ≡ 0

-- its pages are used one by one: SGAM says so, or a page has a use
pub record IsShared (g : Geometry) (e : ℕ) (extent : Extent) : Type 0 where
  pub free : extent.free ≡ false
  pub system : is_system_extent g e ≡ false
  pub claimed : (extent.mixed ≡ true) ⊎ HoldsUse e extent
  pub roles : AreRolesGood g e extent
  pub one : (p : ℕ) → p / 8 ≡ e → (u v : Use) → extent.uses p u → extent.uses p v → u ≡ v
  pub used : (p : ℕ) → p / 8 ≡ e → IsTrue (is_ordinary g p) → (u : Use) → extent.uses p u → FitsUse (extent.byte p) u.place
  pub unused : (p : ℕ) → p / 8 ≡ e → IsTrue (is_ordinary g p) → (IsUsed extent p → ⊥) → extent.byte p ≡ 0
  pub unmarked : IsMarked extent → ⊥

-- object o marks it, and nobody else has anything of it
pub record IsOwned (g : Geometry) (e : ℕ) (extent : Extent) (o : ℕ) : Type 0 where
  pub free : extent.free ≡ false
  pub mixed : extent.mixed ≡ false
  pub system : is_system_extent g e ≡ false
  pub boot : e ≢ 1
  pub roles : AreRolesGood g e extent
  pub unused : (p : ℕ) → p / 8 ≡ e → IsUsed extent p → ⊥
  pub marked : extent.marks o
  pub only : (q : ℕ) → extent.marks q → q ≡ o
  pub bytes : (p : ℕ) → p / 8 ≡ e → IsTrue (is_ordinary g p) → FitsMark (extent.byte p)
