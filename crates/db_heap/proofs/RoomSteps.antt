-- The room on a page of a heap is asked.
use Rattle.std.proofs.Common.{◌≡◌, refl, ℕ, Bool, true, false, IsTrue, List, [], Result, Ok, Err, sym, ap, ◌∙◌, subst}
use Rattle.std.specs.Prelude.{◌&&◌, ◌==◌, ◌%◌, if◌then◌else◌, Option, Some, None, IsErrAnd}
use Rattle.std.proofs.lemmas.Result.{err_from_is_err_and}
use Rattle.spec_file.specs.CatalogRows.{CatalogRow}
use Rattle.spec_file.specs.Roles.{is_ordinary}
use Rattle.spec_chain.specs.Uses.{pfs_byte}
use Rattle.spec_plan.specs.Rows.{has_room_for}
use Rattle.spec_words.specs.NetChanges.{FileShape}
use Rattle.spec_words.specs.Views.{View}
use Rattle.spec_words.specs.Words.{◌then◌, give, sees}
use Rattle.spec_words.specs.Heaps.{heap_page, room_on}
use Rattle.db_locks.specs.Cells.{pfs_byte_read}
use Rattle.db_locks.specs.declared.plan_pages.PageStop.{PageStop}
use Rattle.db_locks.specs.States.{PlanState}
use Rattle.db_locks.specs.Does.{Does, DoesAfter}
use Rattle.db_locks.proofs.PlanLaws.{does_after, does_then, does_more, does_give, does_see}
use Rattle.db_alloc.specs.Results.{value_as}
use Rattle.db_alloc.proofs.Steps.{does_plan, does_exit_as}
use Rattle.db_heap.specs.Inserts.{WasByteRead}
use Rattle.db_heap.proofs.ByteSteps.{byte_seen, seen_by}

abbrev pub full_by : FileShape → ℕ → View → Bool
full_by shape p view = is_ordinary shape.geometry p && (pfs_byte shape.geometry view.now p % 8 == 4)

and_not : (b c : Bool) → b ≡ false → (b && c) ≡ false
and_not b c e = rw e refl

-- a page of maps is never passed over
pub full_never : (a : PlanState) (looked : List ℕ) (p : ℕ) → is_ordinary a.view.shape.geometry p ≡ false → DoesAfter looked a a (sees (full_by a.view.shape p)) (Ok false)
full_never a looked p other = does_see looked a (full_by a.view.shape p) false (λ told. sym (and_not (is_ordinary a.view.shape.geometry p) (pfs_byte a.view.shape.geometry a.view.now p % 8 == 4) other))

full_seen : {a b : PlanState} (looked : List ℕ) (p : ℕ) (result : Result ℕ PageStop) → (IsTrue a.told → WasByteRead looked a.view p) → Does a b (pfs_byte_read a.view.shape p) result
    → DoesAfter looked a b (sees (full_by a.view.shape p)) (value_as (λ byte. is_ordinary a.view.shape.geometry p && (byte % 8 == 4)) result)
full_seen {a} looked p result before d =
    seen_by looked (λ view. pfs_byte a.view.shape.geometry view.now p) (λ byte. is_ordinary a.view.shape.geometry p && (byte % 8 == 4)) result (byte_seen looked p before d)

pub full_unseen : {a b : PlanState} (looked : List ℕ) (p : ℕ) {stop : PageStop} (r : Result Bool PageStop) → (IsTrue a.told → WasByteRead looked a.view p)
    → Does a b (pfs_byte_read a.view.shape p) (Err stop) → IsErrAnd r (λ s. s ≡ stop) → DoesAfter looked a b (sees (full_by a.view.shape p)) r
full_unseen {a} {b} looked p {stop} r before d h =
    let e = err_from_is_err_and r h in
    subst (λ (q : Result Bool PageStop). DoesAfter looked a b (sees (full_by a.view.shape p)) q) (sym (e.1 ∙ ap Err e.2)) (full_seen looked p (Err stop) before d)

pub full_told : {a b : PlanState} (looked : List ℕ) (p byte : ℕ) → is_ordinary a.view.shape.geometry p ≡ true → (IsTrue a.told → WasByteRead looked a.view p)
    → Does a b (pfs_byte_read a.view.shape p) (Ok byte) → DoesAfter looked a b (sees (full_by a.view.shape p)) (Ok (byte % 8 == 4))
full_told {a} {b} looked p byte ordinary before d =
    subst (λ (o : Bool). DoesAfter looked a b (sees (full_by a.view.shape p)) (Ok (o && (byte % 8 == 4)))) ordinary (full_seen looked p (Ok byte) before d)

-- ---- the page behind its PFS byte

pub room_exit : {a b : PlanState} (looked : List ℕ) (row : CatalogRow) (size p : ℕ) (f : Bool → Option ℕ) {stop : PageStop} (r : Result Bool PageStop)
    → DoesAfter looked a b (sees (full_by a.view.shape p)) (Err stop) → IsErrAnd r (λ s. s ≡ stop) → DoesAfter looked a b (room_on a.view.shape row size p) (value_as f r)
room_exit looked row size p f {stop} r d h = does_exit_as _ f stop r refl d h

pub room_passed : {a b : PlanState} (looked : List ℕ) (row : CatalogRow) (size p : ℕ) (full : Bool) → full ≡ true
    → DoesAfter looked a b (sees (full_by a.view.shape p)) (Ok full) → DoesAfter looked a b (room_on a.view.shape row size p) (Ok None)
room_passed {a} {b} looked row size p full is d =
    does_after _ (subst (λ (x : Bool). DoesAfter looked a b (sees (full_by a.view.shape p)) (Ok x)) is d) (does_give _ b None)

pub room_unread : {a b c : PlanState} (looked : List ℕ) (row : CatalogRow) (size p : ℕ) (full : Bool) (f : Bool → Option ℕ) {stop : PageStop} (r : Result Bool PageStop) → full ≡ false
    → b.view ≡ a.view → DoesAfter looked a b (sees (full_by a.view.shape p)) (Ok full) → Does b c (heap_page b.view.shape row p) (Err stop) → IsErrAnd r (λ s. s ≡ stop)
    → DoesAfter looked a c (room_on a.view.shape row size p) (value_as f r)
room_unread {a} {b} looked row size p full f {stop} r is same d dh h =
    does_after _ (subst (λ (x : Bool). DoesAfter looked a b (sees (full_by a.view.shape p)) (Ok x)) is d)
    (does_more _ (does_exit_as _ f stop r refl (does_plan (ap (λ (v : View). heap_page v.shape row p) same) dh) h))

pub room_asked : {a b c : PlanState} (looked : List ℕ) (row : CatalogRow) (size p : ℕ) (full : Bool) (bytes : List ℕ) (fits : Bool) → full ≡ false
    → b.view ≡ a.view → fits ≡ has_room_for bytes size → DoesAfter looked a b (sees (full_by a.view.shape p)) (Ok full) → Does b c (heap_page b.view.shape row p) (Ok bytes)
    → DoesAfter looked a c (room_on a.view.shape row size p) (Ok (if fits then Some p else None))
room_asked {a} {b} {c} looked row size p full bytes fits is same fit d dh =
    does_after _ (subst (λ (x : Bool). DoesAfter looked a b (sees (full_by a.view.shape p)) (Ok x)) is d)
    (does_more _ (subst (λ (x : Bool). Does b c (heap_page a.view.shape row p then (λ bytes. give (if has_room_for bytes size then Some p else None))) (Ok (if x then Some p else None))) (sym fit)
    (does_then _ (does_plan (ap (λ (v : View). heap_page v.shape row p) same) dh) (does_give [] c (if has_room_for bytes size then Some p else None)))))
