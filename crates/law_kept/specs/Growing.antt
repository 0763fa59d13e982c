-- What one more page for an object, as it is planned, does to an image of clean maps.
use Rattle.std.specs.Prelude.{◌≡◌, ℕ, true, List}
use Rattle.spec_file.specs.declared.data.Resource.TheVariants as resource
use Rattle.spec_file.specs.CatalogRows.{CatalogRow}
use Rattle.spec_chain.specs.Chains.{IsObject}
use Rattle.spec_words.specs.Takes.{is_among}
use Rattle.spec_words.specs.Views.{View}
use Rattle.spec_alloc.specs.ObjectPages.{object_page}
use Rattle.spec_clean.specs.CleanFiles.{HasCleanMaps}
use Rattle.spec_steps.specs.Acts.{LeavesOthers}
use Rattle.spec_steps.specs.AllocatedPages.{GetsPage}
use Rattle.spec_steps.specs.Sgam.{HasExactSgam}
use Rattle.law_net.specs.GoodViews.{Leads}
use Rattle.law_kept.specs.Parts.{ChangesTaken}
use Rattle.law_kept.specs.Views.{IsCleanView, OthersHoldExtents}

-- where a page for an object of the catalog is given on a clean view, it is allocated to the object then, besides those
-- that were
abbrev pub PageIsGot : Type 0
PageIsGot = (view : View) (row : CatalogRow) (path : List ℕ) → IsCleanView view → IsObject view.now row →
    Leads (object_page view.shape row path) view (λ p after. GetsPage view.shape.geometry view.now after.now row p)

-- maps and chains stay clean
abbrev pub GrowingLeavesMapsClean : Type 0
GrowingLeavesMapsClean = (view : View) (row : CatalogRow) (path : List ℕ) → IsCleanView view → IsObject view.now row →
    Leads (object_page view.shape row path) view (λ p after. HasCleanMaps view.shape.geometry after.now)

-- every other object keeps its chain and its pages
abbrev pub GrowingLeavesOthers : Type 0
GrowingLeavesOthers = (view : View) (row : CatalogRow) (path : List ℕ) → IsCleanView view → IsObject view.now row →
    Leads (object_page view.shape row path) view (λ p after. LeavesOthers view.shape.geometry view.now after.now row)

-- what a part of a clean file reads is changed only where its resource is taken, if the table is
abbrev pub GrowingChangesTaken : Type 0
GrowingChangesTaken = (view : View) (row : CatalogRow) (path : List ℕ) → IsCleanView view → IsObject view.now row → is_among view.taken (resource.Table (record { 0 = row.id })) ≡ true →
    Leads (object_page view.shape row path) view (λ p after. ChangesTaken view after)

-- and SGAM stays exact, where it was, and others hold extents with bytes
abbrev pub GrowingLeavesSgamExact : Type 0
GrowingLeavesSgamExact = (view : View) (row : CatalogRow) (path : List ℕ) → IsCleanView view → IsObject view.now row → OthersHoldExtents view → HasExactSgam view.shape.geometry view.now →
    Leads (object_page view.shape row path) view (λ p after. HasExactSgam view.shape.geometry after.now)
