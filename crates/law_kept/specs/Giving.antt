-- What a page that an object gives back, as it is planned, does to an image of clean maps.
use Rattle.std.specs.Prelude.{◌≡◌, ℕ, true, IsTrue}
use Rattle.spec_file.specs.declared.data.Resource.TheVariants as resource
use Rattle.spec_file.specs.CatalogRows.{CatalogRow}
use Rattle.spec_file.specs.Roles.{is_ordinary}
use Rattle.spec_chain.specs.Chains.{IsObject}
use Rattle.spec_words.specs.Takes.{is_among}
use Rattle.spec_words.specs.Views.{View}
use Rattle.spec_alloc.specs.Freeing.{object_page_freed}
use Rattle.spec_clean.specs.CleanFiles.{HasCleanMaps}
use Rattle.spec_steps.specs.Acts.{LeavesOthers}
use Rattle.spec_steps.specs.AllocatedPages.{GivesPage}
use Rattle.spec_steps.specs.Sgam.{HasExactSgam}
use Rattle.law_net.specs.GoodViews.{Leads}
use Rattle.law_kept.specs.Parts.{ChangesTaken}
use Rattle.law_kept.specs.Views.{IsCleanView}

-- where a page that objects may own is given back by an object of the catalog on a clean view, it was allocated to the
-- object, and isn't any more
abbrev pub PageIsGivenBack : Type 0
PageIsGivenBack = (view : View) (row : CatalogRow) (p : ℕ) → IsCleanView view → IsObject view.now row → IsTrue (is_ordinary view.shape.geometry p) →
    Leads (object_page_freed view.shape row p) view (λ given after. GivesPage view.shape.geometry view.now after.now row p)

-- maps and chains stay clean
abbrev pub GivingLeavesMapsClean : Type 0
GivingLeavesMapsClean = (view : View) (row : CatalogRow) (p : ℕ) → IsCleanView view → IsObject view.now row → IsTrue (is_ordinary view.shape.geometry p) →
    Leads (object_page_freed view.shape row p) view (λ given after. HasCleanMaps view.shape.geometry after.now)

-- every other object keeps its chain and its pages
abbrev pub GivingLeavesOthers : Type 0
GivingLeavesOthers = (view : View) (row : CatalogRow) (p : ℕ) → IsCleanView view → IsObject view.now row → IsTrue (is_ordinary view.shape.geometry p) →
    Leads (object_page_freed view.shape row p) view (λ given after. LeavesOthers view.shape.geometry view.now after.now row)

-- what a part of a clean file reads is changed only where its resource is taken, if the table is
abbrev pub GivingChangesTaken : Type 0
GivingChangesTaken = (view : View) (row : CatalogRow) (p : ℕ) → IsCleanView view → IsObject view.now row → IsTrue (is_ordinary view.shape.geometry p)
    → is_among view.taken (resource.Table (record { 0 = row.id })) ≡ true →
    Leads (object_page_freed view.shape row p) view (λ given after. ChangesTaken view after)

-- and SGAM stays exact, where it was, whatever others hold
abbrev pub GivingLeavesSgamExact : Type 0
GivingLeavesSgamExact = (view : View) (row : CatalogRow) (p : ℕ) → IsCleanView view → IsObject view.now row → IsTrue (is_ordinary view.shape.geometry p) → HasExactSgam view.shape.geometry view.now →
    Leads (object_page_freed view.shape row p) view (λ given after. HasExactSgam view.shape.geometry after.now)
