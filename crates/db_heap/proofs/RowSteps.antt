-- A row goes on a page with room.
use Rattle.std.proofs.Common.{◌≡◌, ℕ, ◌+◌, ◌-◌, ◌*◌, ◌≤◌, true, IsTrue, List, [], ◌∷◌, Contains, Result, Ok, Err, length, sym, ap, ◌∙◌, subst, arith}
use Rattle.std.specs.Prelude.{IsErrAnd}
use Rattle.std.proofs.lemmas.Bool.{eqb-true, leb-true}
use Rattle.std.proofs.lemmas.List.Elements.{Contains-push}
use Rattle.spec_file.specs.Image.{page}
use Rattle.spec_file.specs.Pfs.{fullness_of}
use Rattle.spec_rows.specs.Slots.{slot_count, rows_size}
use Rattle.spec_file.specs.Places.{pfs_page}
use Rattle.spec_file.specs.declared.geometry.Geometry.{Geometry}
use Rattle.spec_plan.specs.Rows.{passes_page, has_room_for, free_count, with_row, with_fullness}
use Rattle.spec_words.specs.Views.{View}
use Rattle.spec_words.specs.Words.{◌then◌, put_pfs, put_page}
use Rattle.spec_words.specs.Heaps.{row_put}
use Rattle.law_rows.proofs.Passes.{test_from}
use Rattle.db_locks.specs.Cells.{pfs_byte_read}
use Rattle.db_locks.specs.declared.plan_pages.PageStop.{PageStop}
use Rattle.db_locks.specs.States.{PlanState}
use Rattle.db_locks.specs.Does.{Does, DoesAfter, stop_of}
use Rattle.db_locks.proofs.PlanLaws.{does_exit, does_see}
use Rattle.db_locks.proofs.LoopLaws.{Leads, leads_none, leads_then, leads_exit}
use Rattle.db_alloc.proofs.Steps.{does_plan}
use Rattle.db_heap.specs.Inserts.{WasByteRead}
use Rattle.db_heap.proofs.ByteSteps.{byte_seen}

free_by : (free rows slots : ℕ) → free + rows + 2 * slots ≡ 8096 → free ≤ 8096
free_by free rows slots e = omega (arith, e)

-- a page that passes its test has few free bytes
pub free_few : (p o : ℕ) (bytes : List ℕ) → passes_page p o bytes ≡ true → free_count bytes ≤ 8096
free_few p o bytes passes =
    let test = test_from p o bytes passes in
    free_by (free_count bytes) (rows_size bytes (slot_count bytes)) (slot_count bytes) (eqb-true _ _ test.rest.holds.free)

pub room_holds : (bytes : List ℕ) (size : ℕ) → IsTrue (has_room_for bytes size) → size + 2 ≤ free_count bytes
room_holds bytes size room = leb-true _ _ room

abbrev after_byte : ℕ → List ℕ → List ℕ → ℕ
after_byte byte bytes row = with_fullness byte (fullness_of (free_count bytes - (length row + 2)))

-- the PFS byte was not read again
pub row_unread : {a b : PlanState} (looked : List ℕ) (p : ℕ) (row : List ℕ) {stop : PageStop} (r : Result (Unit {0}) PageStop) → (IsTrue a.told → WasByteRead looked a.view p)
    → Does a b (pfs_byte_read a.view.shape p) (Err stop) → IsErrAnd r (λ s. s ≡ stop) → DoesAfter looked a b (row_put a.view.shape p row) r
row_unread looked p row r before d h = does_exit _ (byte_seen looked p before d) h

-- the byte and the page are seen, and the byte is to be put
pub row_seen : {a b : PlanState} (looked : List ℕ) (p byte : ℕ) (row bytes : List ℕ) → (IsTrue a.told → WasByteRead looked a.view p) → b.view ≡ a.view → (IsTrue a.told → bytes ≡ page a.view.now p)
    → Does a b (pfs_byte_read a.view.shape p) (Ok byte)
    → Leads stop_of looked a b (row_put a.view.shape p row) (put_pfs a.view.shape p (after_byte byte bytes row) then (λ _. put_page p (with_row bytes row)))
row_seen {a} {b} looked p byte row bytes before same seen d =
    leads_then _ bytes (leads_then _ byte (leads_none stop_of looked a (row_put a.view.shape p row)) (byte_seen looked p before d))
    (does_see looked b (λ view. page view.now p) bytes (λ told. seen (sym d.stays.told ∙ told) ∙ ap (λ (v : View). page v.now p) (sym same)))

byte_put : (a : PlanState) {b c : PlanState} (looked : List ℕ) (p after : ℕ) (byte : ℕ) (row bytes : List ℕ) {result : Result (Unit {0}) PageStop} → after ≡ after_byte byte bytes row → b.view ≡ a.view
    → DoesAfter looked b c (put_pfs b.view.shape p after) result → DoesAfter looked b c (put_pfs a.view.shape p (after_byte byte bytes row)) result
byte_put a looked p after byte row bytes is same d =
    does_plan (ap (λ (v : View). put_pfs v.shape p after) same ∙ ap (put_pfs a.view.shape p) is) d

pub row_byte_exit : {a b c : PlanState} (looked : List ℕ) (p after byte : ℕ) (row bytes : List ℕ) {stop : PageStop} (r : Result (Unit {0}) PageStop) → after ≡ after_byte byte bytes row → b.view ≡ a.view
    → Leads stop_of looked a b (row_put a.view.shape p row) (put_pfs a.view.shape p (after_byte byte bytes row) then (λ _. put_page p (with_row bytes row)))
    → DoesAfter looked b c (put_pfs b.view.shape p after) (Err stop) → IsErrAnd r (λ s. s ≡ stop) → DoesAfter looked a c (row_put a.view.shape p row) r
row_byte_exit {a} looked p after byte row bytes r is same l d h = leads_exit _ l (byte_put a looked p after byte row bytes is same d) h

pub row_done : {a b c d : PlanState} (looked : List ℕ) (p after byte : ℕ) (row bytes new : List ℕ) (r : Result (Unit {0}) PageStop) → after ≡ after_byte byte bytes row → b.view ≡ a.view → new ≡ with_row bytes row
    → Leads stop_of looked a b (row_put a.view.shape p row) (put_pfs a.view.shape p (after_byte byte bytes row) then (λ _. put_page p (with_row bytes row)))
    → DoesAfter looked b c (put_pfs b.view.shape p after) (Ok tt) → DoesAfter looked c d (put_page p new) r → DoesAfter looked a d (row_put a.view.shape p row) r
row_done {a} {b} {c} {d} looked p after byte row bytes new r is same with_it l put done =
    (leads_then _ tt l (byte_put a looked p after byte row bytes is same put)).lead d r (does_plan (ap (put_page p) with_it) done)

-- the shape stays, whatever was looked at before
pub shape_after : {b c : PlanState} (g : Geometry) (p byte : ℕ) (r : Result (Unit {0}) PageStop)
    → ((looked : List ℕ) → (IsTrue b.told → Contains looked (pfs_page g p)) → DoesAfter looked b c (put_pfs b.view.shape p byte) r) → c.view.shape ≡ b.view.shape
shape_after g p byte r d = (d (pfs_page g p ∷ []) (λ told. Contains-push [] (pfs_page g p))).stays.shape

pub byte_reached : (looked : List ℕ) (g : Geometry) (view : View) (p : ℕ) → g ≡ view.shape.geometry → WasByteRead looked view p → Contains looked (pfs_page g p)
byte_reached looked g view p e h = subst (λ (k : Geometry). Contains looked (pfs_page k p)) (sym e) h.reached
