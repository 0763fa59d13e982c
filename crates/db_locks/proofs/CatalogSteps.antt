-- Page 9 is taken as a whole, and put.
use Rattle.std.proofs.Common.{◌≡◌, ℕ, ◌<◌, true, IsTrue, List, length, Contains, Result, Ok, inl, refl, sym, ap, ◌∙◌, subst}
use Rattle.std.specs.Prelude.{slice_set}
use Rattle.spec_file.specs.declared.data.Resource.{Resource}
use Rattle.spec_file.specs.declared.data.Resource.TheVariants as resource
use Rattle.spec_file.specs.Image.{page, page_size}
use Rattle.spec_log.specs.declared.item.Cell.TheVariants.{Bytes}
use Rattle.spec_log.specs.Cover.{byte_guard}
use Rattle.law_cover.proofs.Pages.{catalog_guards_boot}
use Rattle.spec_words.specs.NetChanges.{FileShape}
use Rattle.spec_words.specs.Takes.{is_among}
use Rattle.spec_words.specs.Words.{put_catalog}
use Rattle.db_locks.specs.declared.plan_pages.PageStop.{PageStop}
use Rattle.db_locks.specs.Guards.{DifferOnPage, carried}
use Rattle.db_locks.specs.States.{PlanState, AreImages}
use Rattle.db_locks.specs.Does.{Does, DoesAfter, carry}
use Rattle.db_locks.proofs.PlanLaws.{does_after, does_more}
use Rattle.db_locks.proofs.LoopLaws.{does_further}
use Rattle.db_locks.proofs.WordLaws.{does_write, does_put}
use Rattle.db_locks.proofs.PageLaws.{carried_page, fits_some, told_catalog}
use Rattle.db_locks.proofs.CellSteps.{Takes, mine, shape_kept, seen_long}

catalog_differs : (shape : FileShape) (taken : List Resource) (shown after : List ℕ) → 9 < shape.pages → is_among taken resource.Catalog ≡ true → DifferOnPage taken shape 9 shown after
catalog_differs shape taken shown after lt mine i j here low ne =
    inl (fits_some (byte_guard shape.geometry shape.pages 9 i) resource.Catalog (λ r. is_among taken r ≡ true) (catalog_guards_boot shape.geometry shape.pages i lt) mine)

-- what may be put of page 9 once the catalog is taken
pub catalog_may_be_put : (b c : PlanState) (after : List ℕ) → 9 < b.view.shape.pages → Takes b c resource.Catalog → DifferOnPage c.view.taken c.view.shape 9 (page c.shown 9) after
catalog_may_be_put b c after lt t =
    subst (λ s. DifferOnPage c.view.taken s 9 (page c.shown 9) after) (sym (shape_kept resource.Catalog t)) (catalog_differs b.view.shape c.view.taken (page c.shown 9) after lt (mine resource.Catalog t))

-- it is shown as it is seen then
catalog_taken : (b c : PlanState) → 9 < b.view.shape.pages → AreImages c → Takes b c resource.Catalog → page c.shown 9 ≡ page c.view.now 9
catalog_taken b c lt images t =
    let lt' = subst (λ (s : FileShape). 9 < s.pages) (sym (shape_kept resource.Catalog t)) lt in
    told_catalog c.view.shape (page c.shown 9) (page c.view.now 9) lt' (images.shown.bytes 9) (images.now.bytes 9) (seen_long c.view.shape c.shown 9 images.shown lt')
    (seen_long c.view.shape c.view.now 9 images.now lt') (images.taken resource.Catalog (mine resource.Catalog t) 9)

pub catalog_written : (b c d : PlanState) (after looked : List ℕ) (result : Result (Unit {0}) PageStop) → (IsTrue c.told → AreImages c) → 9 < b.view.shape.pages → length after ≡ page_size
    → (IsTrue b.told → Contains looked 9) → Takes b c resource.Catalog → Does c d (carry 9 (page c.shown 9) after) result → DoesAfter looked b d (put_catalog 0 after) result
catalog_written b c d after looked result images lt long before t put =
    let cell = Bytes (record { 0 = 9 }) 0 in
    does_write resource.Catalog cell after (does_after _ (does_more looked t.take)
    (does_further _ (does_put 9 (page c.shown 9) after cell after (λ told. before (subst IsTrue t.take.stays.told told))
    (λ told.
    let now = (images told).now in
    let lt' = subst (λ (s : FileShape). 9 < s.pages) (sym (shape_kept resource.Catalog t)) lt in
    ap (λ (page : List ℕ). slice_set c.view.now 9 page)
    (ap (λ (shown : List ℕ). carried shown after (page c.view.now 9)) (catalog_taken b c lt (images told) t)
    ∙ carried_page (page c.view.now 9) after (long ∙ sym (seen_long c.view.shape c.view.now 9 now lt'))))
    (does_more looked put))))
