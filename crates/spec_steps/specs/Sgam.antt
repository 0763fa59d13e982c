-- When SGAM is exact. No rule of the check asks for it: an extent whose SGAM bit stays 1 when its last page is taken, or
-- 0 when one is freed, is no error.
use Rattle.std.specs.Prelude.{ℕ, ◌<◌, IsTrue}
use Rattle.spec_file.specs.declared.geometry.Geometry.{Geometry}
use Rattle.spec_file.specs.declared.pfs.PfsKind.TheVariants.{Iam, Single}
use Rattle.spec_file.specs.Image.{Image}
use Rattle.spec_file.specs.CatalogRows.{CatalogRow}
use Rattle.spec_file.specs.Places.{is_mixed, extent_count}
use Rattle.spec_extents.specs.Extents.{extent_of, HoldsUse}
use Rattle.spec_steps.specs.Taking.{HasOpenPage, IsTakenAs, PutsIntoSlot, ChangesSinglePage, ChangesMarkedPage, MarksExtent, GrowsChain}
use Rattle.spec_steps.specs.Freeing.{FreesSingle, FreesLast}

-- an extent whose SGAM bit is 1 has a page to take, and of one that holds a use and has such a page the bit is 1
pub record IsSgamExact (g : Geometry) (image : Image) (e : ℕ) : Type 0 where
  pub open_page : IsTrue (is_mixed g image e) → HasOpenPage g image e
  pub mixed : HoldsUse e (extent_of g image e) → HasOpenPage g image e → IsTrue (is_mixed g image e)

-- so it is of each extent
abbrev pub HasExactSgam : Geometry → Image → Type 0
HasExactSgam g image = (e : ℕ) → e < extent_count image → IsSgamExact g image e

-- a step of allocation on an object; a single page that is taken leaves its extent mixed exactly where a page is left to
-- take
pub data IsAllocationStep (g : Geometry) (image image' : Image) (row : CatalogRow) : Type 0 where
  Slot : (slot p : ℕ) → PutsIntoSlot g image image' row slot p → IsTakenAs g image' p Single → IsAllocationStep g image image' row
  Filled : (p : ℕ) → ChangesSinglePage g image image' row p → IsAllocationStep g image image' row
  Changed : (p : ℕ) → ChangesMarkedPage g image image' row p → IsAllocationStep g image image' row
  Marked : (k e p : ℕ) → MarksExtent g image image' row k e p → IsAllocationStep g image image' row
  Grown : (last p : ℕ) → GrowsChain g image image' row last p → IsTakenAs g image' p Iam → IsAllocationStep g image image' row
  FreedSingle : (p : ℕ) → FreesSingle g image image' row p → IsAllocationStep g image image' row
  FreedLast : (p : ℕ) → FreesLast g image image' row p → IsAllocationStep g image image' row
