-- The calls of an insert are put together.
use Rattle.std.proofs.Common.{◌≡◌, refl, ℕ, IsTrue, List, [], ◌++◌, All, get_or, length, Contains, Option, Some, None, Result, Ok, Err, sym, ap, ◌∙◌, subst}
use Rattle.std.specs.Prelude.{IsErrAnd}
use Rattle.std.specs.Option.{option_map}
use Rattle.std.proofs.lemmas.List.Elements.{Contains-append_left, Contains-append_right}
use Rattle.spec_file.specs.declared.data.PageNo.{PageNo}
use Rattle.spec_file.specs.declared.data.Resource.{Resource}
use Rattle.spec_file.specs.declared.data.Resource.TheVariants as resource
use Rattle.spec_file.specs.Places.{pfs_page}
use Rattle.spec_file.specs.CatalogRows.{CatalogRow}
use Rattle.spec_script.specs.declared.reply.Reply.{Reply}
use Rattle.spec_script.specs.declared.reply.Reply.TheVariants.{Rows}
use Rattle.spec_plan.specs.Refusals.{no_room}
use Rattle.spec_plan.specs.Rows.{heap_row}
use Rattle.spec_words.specs.NetChanges.{FileShape}
use Rattle.spec_words.specs.Views.{View, Plan}
use Rattle.spec_words.specs.Words.{◌then◌, give, first_of}
use Rattle.spec_words.specs.Tables.{table_of, table_pages}
use Rattle.spec_words.specs.Heaps.{room_on, row_put, insert_plan}
use Rattle.db_locks.specs.declared.plan_pages.PageStop.{PageStop}
use Rattle.db_locks.specs.States.{PlanState}
use Rattle.db_locks.specs.Does.{Does, DoesAs, DoesAfter, Stays}
use Rattle.db_locks.proofs.PlanLaws.{does_after, does_then, does_stop, does_give, does_refuse}
use Rattle.db_alloc.specs.declared.find.FindStop.TheVariants.{Page}
use Rattle.db_alloc.specs.Results.{value_as}
use Rattle.db_alloc.proofs.Steps.{does_plan, does_ok, does_exit_as}
use Rattle.db_heap.specs.declared.insert.InsertStop.{InsertStop}
use Rattle.db_heap.specs.declared.insert.InsertStop.TheVariants.{Find, NoRoom}
use Rattle.db_heap.specs.Inserts.{WasByteRead}
use Rattle.db_heap.specs.InsertPlans.{insert_stop, row_placed, row_inserted}
use Rattle.db_heap.proofs.RoomFound.{first_room}
use Rattle.db_heap.proofs.ByteReads.{IsFree, table_read}

abbrev searched : PlanState → CatalogRow → List ℕ → List ℕ → Plan (Option ℕ)
searched a row bytes pages = first_of (room_on a.view.shape row (length bytes)) pages

-- a page was found, or none
found_as : {a b : PlanState} (looked : List ℕ) (row : CatalogRow) (bytes pages : List ℕ) (found other : Option PageNo) → found ≡ other
    → DoesAfter looked a b (searched a row bytes pages) (Ok (option_map (λ p. p.0) found)) → DoesAfter looked a b (searched a row bytes pages) (Ok (option_map (λ p. p.0) other))
found_as {a} {b} looked row bytes pages found other e d = subst (λ (o : Option PageNo). DoesAfter looked a b (searched a row bytes pages) (Ok (option_map (λ p. p.0) o))) e d

pub place_none : {a b : PlanState} (name looked : List ℕ) (row : CatalogRow) (bytes pages : List ℕ) (found : Option PageNo) → found ≡ None
    → DoesAfter looked a b (searched a row bytes pages) (Ok (option_map (λ p. p.0) found)) → DoesAs (insert_stop name) looked a b (row_placed a.view.shape row bytes pages) (Err NoRoom)
place_none {a} {b} name looked row bytes pages found e d =
    does_after _ (does_ok (found_as looked row bytes pages found None e d)) (does_stop {meaning = insert_stop name} (insert_stop name) _ NoRoom refl (does_refuse _ b no_room NoRoom refl))

read_within : (less more : List ℕ) (view other : View) (p : ℕ) → ((q : ℕ) → Contains less q → Contains more q) → other ≡ view → WasByteRead less view p → WasByteRead more other p
read_within less more view other p within same h =
    subst (λ (v : View). WasByteRead more v p) (sym same) (record { reached = within (pfs_page view.shape.geometry p) h.reached; free = h.free })

-- the pages that were looked at once a page was found
abbrev by_then : PlanState → PlanState → List ℕ → CatalogRow → List ℕ → List ℕ → ℕ → List ℕ
by_then a b looked row bytes pages p = (looked ++ (searched a row bytes pages a.view).reached) ++ (give p b.view).reached

place_then : {a b d : PlanState} (name looked : List ℕ) (row : CatalogRow) (bytes pages : List ℕ) (found : Option PageNo) (p : PageNo) {result : Result Reply InsertStop} → found ≡ Some p
    → DoesAfter looked a b (searched a row bytes pages) (Ok (option_map (λ p. p.0) found)) → b.view ≡ a.view
    → DoesAs (insert_stop name) (by_then a b looked row bytes pages p.0) b d (row_put b.view.shape p.0 bytes then (λ _. give (Rows 1 []))) result
    → DoesAs (insert_stop name) looked a d (row_placed a.view.shape row bytes pages) result
place_then {a} {b} name looked row bytes pages found p e d same done =
    does_after _ (does_ok (found_as looked row bytes pages found (Some p) e d))
    (does_after _ (does_give (looked ++ (searched a row bytes pages a.view).reached) b p.0)
    (does_plan (ap (λ (v : View). row_put v.shape p.0 bytes then (λ _. give (Rows 1 []))) same) done))

-- what a call that puts the row did, after whatever was looked at
abbrev Puts : PlanState → PlanState → ℕ → List ℕ → Result (Unit {0}) PageStop → Type 0
Puts b d p bytes result =
    (looked : List ℕ) → (IsTrue b.told → WasByteRead looked b.view p) → (IsTrue b.told → Contains looked p) → DoesAfter looked b d (row_put b.view.shape p bytes) result

put_by_then : {a b d : PlanState} (looked : List ℕ) (row : CatalogRow) (bytes pages : List ℕ) (found : Option PageNo) (p : PageNo) {result : Result (Unit {0}) PageStop} → found ≡ Some p
    → (IsTrue a.told → All (WasByteRead looked a.view) pages) → DoesAfter looked a b (searched a row bytes pages) (Ok (option_map (λ p. p.0) found)) → b.view ≡ a.view
    → Puts b d p.0 bytes result → DoesAfter (by_then a b looked row bytes pages p.0) b d (row_put b.view.shape p.0 bytes) result
put_by_then {a} {b} looked row bytes pages found p e before d same put =
    let reached = (searched a row bytes pages a.view).reached in
    let is = found_as looked row bytes pages found (Some p) e d in
    let known = λ (told : IsTrue b.told). first_room a.view.shape row (length bytes) p.0 pages a.view b.view (WasByteRead looked a.view) (before (sym d.stays.told ∙ told)) (is.exact (sym d.stays.told ∙ told)) in
    put (by_then a b looked row bytes pages p.0)
    (λ told. read_within looked (by_then a b looked row bytes pages p.0) a.view b.view p.0 (λ q h. Contains-append_left (looked ++ reached) _ q (Contains-append_left looked reached q h)) same (known told).holds)
    (λ told. Contains-append_left (looked ++ reached) _ p.0 (Contains-append_right looked reached p.0 (known told).reached_it))

pub place_exit : {a b d : PlanState} (name looked : List ℕ) (row : CatalogRow) (bytes pages : List ℕ) (found : Option PageNo) (p : PageNo) (f : Unit {0} → Reply) {stop : PageStop} (r : Result (Unit {0}) InsertStop) → found ≡ Some p
    → (IsTrue a.told → All (WasByteRead looked a.view) pages) → DoesAfter looked a b (searched a row bytes pages) (Ok (option_map (λ p. p.0) found)) → b.view ≡ a.view
    → Puts b d p.0 bytes (Err stop) → IsErrAnd r (λ s. s ≡ Find (Page stop)) → DoesAs (insert_stop name) looked a d (row_placed a.view.shape row bytes pages) (value_as f r)
place_exit name looked row bytes pages found p f {stop} r e before d same put h =
    place_then name looked row bytes pages found p e d same (does_exit_as _ f (Find (Page stop)) r refl (put_by_then looked row bytes pages found p e before d same put) h)

pub place_done : {a b d : PlanState} (name looked : List ℕ) (row : CatalogRow) (bytes pages : List ℕ) (found : Option PageNo) (p : PageNo) → found ≡ Some p
    → (IsTrue a.told → All (WasByteRead looked a.view) pages) → DoesAfter looked a b (searched a row bytes pages) (Ok (option_map (λ p. p.0) found)) → b.view ≡ a.view
    → Puts b d p.0 bytes (Ok tt) → DoesAs (insert_stop name) looked a d (row_placed a.view.shape row bytes pages) (Ok (Rows 1 []))
place_done {a} {b} {d = d} name looked row bytes pages found p e before is same put =
    place_then name looked row bytes pages found p e is same (does_after _ (does_ok (put_by_then looked row bytes pages found p e before is same put)) (does_give _ d (Rows 1 [])))

-- the pages of a table have PFS bytes that were read
pub pages_known : {a b c : PlanState} (row : CatalogRow) (pages others : List ℕ) (more : List ℕ) → others ≡ pages → Does a b (table_pages a.view.shape row) (Ok pages) → Stays b c → IsTrue c.told
    → All (WasByteRead (([] ++ (table_pages a.view.shape row a.view).reached) ++ more) c.view) others
pages_known {a} {b} {c} row pages others more e d stays told =
    let free = table_read a.view.shape row a.view b.view pages (d.exact (sym d.stays.told ∙ (sym stays.told ∙ told))) in
    subst (All (WasByteRead (([] ++ (table_pages a.view.shape row a.view).reached) ++ more) c.view)) (sym e) (λ k x lt. by_free (get_or pages k x) (free k x lt))
  where
    by_free : (p : ℕ) → IsFree a.view.shape b.view (table_pages a.view.shape row a.view).reached p → WasByteRead (([] ++ (table_pages a.view.shape row a.view).reached) ++ more) c.view p
    by_free p h = record {
      reached = Contains-append_left ([] ++ (table_pages a.view.shape row a.view).reached) more _
          (subst (λ (shape : FileShape). Contains (table_pages a.view.shape row a.view).reached (pfs_page shape.geometry p)) (sym (stays.shape ∙ d.stays.shape)) h.looked);
      free = ap (λ (other : Resource → Option ℕ). other (resource.Byte (record { 0 = p }))) stays.other ∙ h.free;
    }

-- a row goes into the table that was found
pub insert_found : {a b c : PlanState} (name : List ℕ) (key : ℕ) (payload : List ℕ) (row : CatalogRow) (bytes : List ℕ) {result : Result Reply InsertStop} → bytes ≡ heap_row key payload
    → DoesAs (insert_stop name) [] a b (table_of name) (Ok row) → DoesAs (insert_stop name) [] b c (row_inserted b.view.shape row bytes) result
    → DoesAs (insert_stop name) [] a c (insert_plan a.view.shape name key payload) result
insert_found {a} name key payload row bytes e found done =
    does_then (λ (row : CatalogRow). row_inserted a.view.shape row (heap_row key payload)) found
    (does_plan (ap (λ (shape : FileShape). row_inserted shape row bytes) found.stays.shape ∙ ap (row_inserted a.view.shape row) e) done)
