-- CREATE HEAP, as it is planned, leaves a clean file clean.
use Rattle.std.specs.Prelude.{◌≡◌, ℕ, true, List}
use Rattle.spec_file.specs.declared.geometry.Geometry.{Geometry}
use Rattle.spec_file.specs.declared.data.Kind.TheVariants.{Heap}
use Rattle.spec_file.specs.Catalog.{is_name}
use Rattle.spec_file.specs.CatalogRows.{CatalogRow}
use Rattle.spec_file.specs.Image.{Image}
use Rattle.spec_words.specs.Views.{View}
use Rattle.spec_statements.specs.Objects.{create_plan}
use Rattle.spec_clean.specs.CleanFiles.{HasCleanMaps, IsClean}
use Rattle.spec_steps.specs.Sgam.{HasExactSgam}
use Rattle.spec_steps.specs.Tables.{CreatesObject}
use Rattle.law_net.specs.GoodViews.{Leads}
use Rattle.law_kept.specs.Views.{IsCleanView, OthersHoldExtents}

-- a heap of this name is created, with one page
pub record CreatesHeap (g : Geometry) (name : List ℕ) (image image' : Image) : Type 0 where
  pub row : CatalogRow
  pub page : ℕ
  pub kind : row.kind ≡ Heap
  pub named : row.name ≡ name
  pub creates : CreatesObject g image image' row page

-- where CREATE HEAP gives a reply on a clean view, it creates the heap
abbrev pub CreateCreates : Type 0
CreateCreates = (view : View) (name : List ℕ) → is_name name ≡ true → IsCleanView view →
    Leads (create_plan view.shape name) view (λ reply after. CreatesHeap view.shape.geometry name view.now after.now)

-- so maps and chains stay clean
abbrev pub CreateLeavesMapsClean : Type 0
CreateLeavesMapsClean = (view : View) (name : List ℕ) → is_name name ≡ true → IsCleanView view →
    Leads (create_plan view.shape name) view (λ reply after. HasCleanMaps view.shape.geometry after.now)

-- the whole file, where it was
abbrev pub CreateLeavesFileClean : Type 0
CreateLeavesFileClean = (view : View) (name : List ℕ) → is_name name ≡ true → IsCleanView view → IsClean view.shape.geometry view.now →
    Leads (create_plan view.shape name) view (λ reply after. IsClean view.shape.geometry after.now)

-- and SGAM exact, where it was, and others hold extents with bytes
abbrev pub CreateLeavesSgamExact : Type 0
CreateLeavesSgamExact = (view : View) (name : List ℕ) → is_name name ≡ true → IsCleanView view → OthersHoldExtents view → HasExactSgam view.shape.geometry view.now →
    Leads (create_plan view.shape name) view (λ reply after. HasExactSgam view.shape.geometry after.now)
