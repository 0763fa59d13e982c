-- DROP, as it is planned, leaves a clean file clean.
use Rattle.std.specs.Prelude.{◌≡◌, ◌⊎◌, ℕ, ◌<◌, true, IsTrue, List, length}
use Rattle.spec_file.specs.declared.geometry.Geometry.{Geometry}
use Rattle.spec_file.specs.CatalogRows.{CatalogRow}
use Rattle.spec_file.specs.Image.{Image}
use Rattle.spec_file.specs.Places.{is_free, extent_count}
use Rattle.spec_file.specs.Roles.{is_ordinary}
use Rattle.spec_chain.specs.Chains.{IsObject}
use Rattle.spec_chain.specs.Marks.{IsMarked}
use Rattle.spec_chain.specs.Uses.{IsAllocatedTo, pfs_byte}
use Rattle.spec_words.specs.Views.{View}
use Rattle.spec_alloc.specs.Objects.{pages_dropped}
use Rattle.spec_statements.specs.Objects.{drop_plan}
use Rattle.spec_clean.specs.CleanFiles.{HasCleanMaps, IsClean}
use Rattle.spec_steps.specs.AtMost.{Changed, AtMost}
use Rattle.spec_steps.specs.Sgam.{HasExactSgam}
use Rattle.spec_steps.specs.Freeing.{IsLeftShared}
use Rattle.spec_steps.specs.Tables.{Has, UsesOf, DropsObject}
use Rattle.law_net.specs.GoodViews.{Leads}
use Rattle.law_kept.specs.Views.{IsCleanView}

-- the bits of the extents that the object marks or uses pages of, and the PFS bytes of the pages that it has
abbrev pub maps_dropped : Geometry → Image → CatalogRow → Changed
maps_dropped g image row = record {
  free = λ e. IsMarked g image row e ⊎ UsesOf g image row e;
  mixed = UsesOf g image row;
  bytes = Has g image row;
  pages = λ q. ⊥;
}

-- all that the object has is given back: the PFS bytes of its pages are 0, the extents that it marked are free, and those
-- of its single pages mixed or free
pub record GivesBack (g : Geometry) (image image' : Image) (row : CatalogRow) : Type 0 where
  pub ordinary : (p : ℕ) → IsAllocatedTo g image row p → IsTrue (is_ordinary g p)
  pub most : AtMost g (maps_dropped g image row) image image'
  pub bytes : (p : ℕ) → p < length image → Has g image row p → pfs_byte g image' p ≡ 0
  pub marked : (e : ℕ) → e < extent_count image → IsMarked g image row e → is_free g image' e ≡ true
  pub shared : (e : ℕ) → e < extent_count image → UsesOf g image row e → IsLeftShared g image' e

-- where the pages of an object are dropped on a clean view, all that it has is given back
abbrev pub PagesAreGivenBack : Type 0
PagesAreGivenBack = (view : View) (row : CatalogRow) → IsCleanView view → IsObject view.now row →
    Leads (pages_dropped view.shape row) view (λ given after. GivesBack view.shape.geometry view.now after.now row)

-- the object of this name is dropped
pub record DropsTable (g : Geometry) (name : List ℕ) (image image' : Image) : Type 0 where
  pub row : CatalogRow
  pub named : row.name ≡ name
  pub object : IsObject image row
  pub drops : DropsObject g image image' row

-- where DROP gives a reply on a clean view, it drops the object of that name
abbrev pub DropDrops : Type 0
DropDrops = (view : View) (name : List ℕ) → IsCleanView view →
    Leads (drop_plan view.shape name) view (λ reply after. DropsTable view.shape.geometry name view.now after.now)

-- so maps and chains stay clean
abbrev pub DropLeavesMapsClean : Type 0
DropLeavesMapsClean = (view : View) (name : List ℕ) → IsCleanView view →
    Leads (drop_plan view.shape name) view (λ reply after. HasCleanMaps view.shape.geometry after.now)

-- the whole file, where it was
abbrev pub DropLeavesFileClean : Type 0
DropLeavesFileClean = (view : View) (name : List ℕ) → IsCleanView view → IsClean view.shape.geometry view.now →
    Leads (drop_plan view.shape name) view (λ reply after. IsClean view.shape.geometry after.now)

-- and SGAM exact, where it was
abbrev pub DropLeavesSgamExact : Type 0
DropLeavesSgamExact = (view : View) (name : List ℕ) → IsCleanView view → HasExactSgam view.shape.geometry view.now →
    Leads (drop_plan view.shape name) view (λ reply after. HasExactSgam view.shape.geometry after.now)
