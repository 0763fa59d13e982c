-- A page of a heap is read, and its rows are counted.
use Rattle.std.proofs.Common.{◌≡◌, refl, ℕ, Bool, true, false, List, [], Result, Ok, Err, sym, ap, ◌∙◌, subst}
use Rattle.std.specs.Prelude.{◌&&◌, IsErrAnd}
use Rattle.std.proofs.lemmas.Result.{err_from_is_err_and}
use Rattle.spec_file.specs.declared.data.PageNo.{PageNo}
use Rattle.spec_file.specs.declared.data.Resource.TheVariants as resource
use Rattle.spec_file.specs.CatalogRows.{CatalogRow}
use Rattle.spec_file.specs.Roles.{is_ordinary}
use Rattle.spec_plan.specs.Rows.{passes_page}
use Rattle.spec_words.specs.Words.{look}
use Rattle.spec_words.specs.Heaps.{heap_page}
use Rattle.db_locks.specs.declared.plan_pages.PageStop.{PageStop}
use Rattle.db_locks.specs.declared.plan_pages.PageStop.TheVariants.{Bad}
use Rattle.db_locks.specs.States.{PlanState}
use Rattle.db_locks.specs.Does.{Does, stop_of, filled}
use Rattle.db_locks.proofs.PlanLaws.{does_then, does_stop, does_give, does_good, does_bad}

-- a look stopped
pub page_exit : {a b : PlanState} (row : CatalogRow) (p : ℕ) (bytes : List ℕ) {stop : PageStop} (r : Result (Unit {0}) PageStop)
    → Does a b (look (resource.Page (record { 0 = p })) p) (Err stop) → IsErrAnd r (λ s. s ≡ stop) → Does a b (heap_page a.view.shape row p) (filled bytes r)
page_exit {a} {b} row p bytes {stop} r d h =
    let e = err_from_is_err_and r h in
    subst (λ (q : Result (Unit {0}) PageStop). Does a b (heap_page a.view.shape row p) (filled bytes q)) (sym (e.1 ∙ ap Err e.2)) (does_stop {meaning = stop_of} stop_of _ stop refl d)

-- the page is not one of the heap
pub page_other : {a b : PlanState} (row : CatalogRow) (p : PageNo) (bytes : List ℕ) → Does a b (look (resource.Page p) p.0) (Ok bytes)
    → (is_ordinary a.view.shape.geometry p.0 && passes_page p.0 row.id bytes) ≡ false → Does a b (heap_page a.view.shape row p.0) (Err (Bad p))
page_other {a} {b} row p bytes d bad =
    does_then _ d (does_stop {meaning = stop_of} stop_of _ (Bad p) refl (does_bad [] b (is_ordinary a.view.shape.geometry p.0 && passes_page p.0 row.id bytes) p.0 (Bad p) refl (λ told. bad)))

pub not_ordinary : (ordinary passes : Bool) → ordinary ≡ false → (ordinary && passes) ≡ false
not_ordinary ordinary passes e = rw e refl

pub not_passing : (ordinary passes : Bool) → ordinary ≡ true → passes ≡ false → (ordinary && passes) ≡ false
not_passing ordinary passes e f = rw (e, f) refl

pub both : (ordinary passes : Bool) → ordinary ≡ true → passes ≡ true → (ordinary && passes) ≡ true
both ordinary passes e f = rw (e, f) refl

pub page_good : {a b : PlanState} (row : CatalogRow) (p : ℕ) (bytes : List ℕ) → Does a b (look (resource.Page (record { 0 = p })) p) (Ok bytes)
    → (is_ordinary a.view.shape.geometry p && passes_page p row.id bytes) ≡ true → Does a b (heap_page a.view.shape row p) (Ok bytes)
page_good {a} {b} row p bytes d good =
    does_then _ d (does_then _ (does_good [] b (is_ordinary a.view.shape.geometry p && passes_page p row.id bytes) p (λ told. good)) (does_give [] b bytes))
