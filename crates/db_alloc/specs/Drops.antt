-- Parts of the plans that give an object's pages back.
use Rattle.std.specs.Prelude.{◌≡◌, ℕ, ◌*◌, ◌/◌, ◌<◌, true, List, Contains, map}
use Rattle.spec_file.specs.declared.data.ExtentNo.{ExtentNo}
use Rattle.spec_file.specs.declared.geometry.Geometry.{Geometry}
use Rattle.spec_file.specs.CatalogRows.{CatalogRow}
use Rattle.spec_file.specs.Image.{page}
use Rattle.spec_file.specs.Places.{pfs_page}
use Rattle.spec_file.specs.Roles.{is_ordinary}
use Rattle.spec_plan.specs.Reading.{is_marked}
use Rattle.spec_words.specs.NetChanges.{FileShape}
use Rattle.spec_words.specs.Views.{View, Plan}
use Rattle.spec_words.specs.Words.{◌then◌, give, sees, where_good, for_each}
use Rattle.spec_words.specs.Tables.{object_pages}
use Rattle.spec_alloc.specs.Chains.{chain_now}
use Rattle.spec_alloc.specs.Freeing.{shared_freed}
use Rattle.spec_alloc.specs.Objects.{page_dropped, left_extents, left_freed}
use Rattle.db_alloc.specs.declared.owned.Owned.{Owned}
use Rattle.db_alloc.specs.Tables.{numbers}

-- each page that objects may own is as it was
pub record LeavesPages (g : Geometry) (before after : View) : Type 0 where
  pub same : (q : ℕ) → is_ordinary g q ≡ true → page after.now q ≡ page before.now q

-- the chain of an object, and its allocated pages
abbrev pub owned_read : FileShape → CatalogRow → Plan (List ℕ × List ℕ)
owned_read shape row = chain_now shape row then (λ chain. sees (object_pages shape chain) then (λ pages. give (chain, pages)))

-- the numbers of these pages
abbrev pub owned_of : Owned → List ℕ × List ℕ
owned_of owned = (numbers owned.chain.numbers.items, numbers owned.pages.items)

-- the numbers of extents
abbrev pub extents : List ExtentNo → List ℕ
extents items = map (λ (e : ExtentNo). e.0) items

-- the PFS pages of the extents of the file that the chain marks were reached
pub record HasReached (looked : List ℕ) (view : View) (chain : List ℕ) : Type 0 where
  pub pfs : (e : ℕ) → e < view.shape.pages / 8 → is_marked view.shape.geometry view.now chain (8 * e) ≡ true → Contains looked (pfs_page view.shape.geometry (8 * e))

-- the extents that the chain marks and that aren't in use become free
abbrev pub extents_dropped : FileShape → List ℕ → Plan (Unit {0})
extents_dropped shape chain = sees (left_extents shape chain) then (λ extents. for_each (left_freed shape) extents)

-- what DROP does, once it has read the chain and the pages of the object
abbrev pub owned_dropped : FileShape → List ℕ → List ℕ → Plan (Unit {0})
owned_dropped shape chain pages =
    for_each (λ p. where_good (is_ordinary shape.geometry p) p) pages then (λ _.
    for_each (page_dropped shape chain) pages then (λ _.
    for_each (shared_freed shape) chain then (λ _.
    extents_dropped shape chain)))
