-- Rows are counted, page by page.
use Rattle.std.proofs.Common.{◌≡◌, refl, ℕ, ◌+◌, List, [], ◌∷◌, ◌++◌, Result, Ok, Err, sym, ap, ◌∙◌, subst, arith}
use Rattle.std.specs.Prelude.{IsErrAnd, sum_by}
use Rattle.std.proofs.lemmas.List.Sums.{sum_by-append, sum_by-cons}
use Rattle.std.proofs.lemmas.Result.{err_from_is_err_and}
use Rattle.spec_file.specs.CatalogRows.{CatalogRow}
use Rattle.spec_rows.specs.Slots.{slot_count}
use Rattle.spec_script.specs.declared.reply.Reply.{Reply}
use Rattle.spec_script.specs.declared.reply.Reply.TheVariants.{Rows}
use Rattle.spec_words.specs.NetChanges.{FileShape}
use Rattle.spec_words.specs.Views.{Plan}
use Rattle.spec_words.specs.Words.{all_of}
use Rattle.spec_words.specs.Heaps.{heap_page}
use Rattle.db_locks.specs.declared.plan_pages.PageStop.{PageStop}
use Rattle.db_locks.specs.States.{PlanState}
use Rattle.db_locks.specs.Does.{Stop, DoesAs, Does, MayStop, HasCause, stop_of}
use Rattle.db_locks.proofs.PlanLaws.{does_then, does_give}
use Rattle.db_locks.proofs.LoopLaws.{Leads, rest_of, all_begin, all_step, all_exit, all_end}
use Rattle.db_alloc.specs.Results.{value_as}
use Rattle.db_alloc.proofs.Steps.{does_plan, does_exit_as}
use Rattle.db_heap.specs.Counts.{rows_counted}

-- of these pages the rest is to be counted, and so many rows were found
pub record Counted (a b : PlanState) (row : CatalogRow) (pages rest : List ℕ) (sum : ℕ) : Type 0 where
  pub found : List (List ℕ)
  pub leads : Leads stop_of [] a b (all_of (heap_page a.view.shape row) pages) (rest_of (heap_page a.view.shape row) found rest)
  pub rows : sum ≡ sum_by slot_count found

pub counted_begin : (a : PlanState) (row : CatalogRow) (pages : List ℕ) → Counted a a row pages pages 0
counted_begin a row pages = record { found = []; leads = all_begin stop_of [] a (heap_page a.view.shape row) pages; rows = refl }

sum_more : (found : List (List ℕ)) (bytes : List ℕ) → sum_by slot_count (found ++ bytes ∷ []) ≡ sum_by slot_count found + slot_count bytes
sum_more found bytes =
    sum_by-append slot_count found (bytes ∷ [])
    ∙ ap (λ n. sum_by slot_count found + n) (sum_by-cons slot_count bytes [] ∙ no_more (slot_count bytes))
  where
    no_more : (n : ℕ) → n + sum_by slot_count [] ≡ n
    no_more n = omega arith

-- a page was read by the view's shape, which stays
here : {b c : PlanState} (shape : FileShape) (row : CatalogRow) (p : ℕ) {result : Result (List ℕ) PageStop} → b.view.shape ≡ shape → Does b c (heap_page b.view.shape row p) result
    → Does b c (heap_page shape row p) result
here shape row p same d = does_plan (ap (λ (shape : FileShape). heap_page shape row p) same) d

pub counted_step : {a b c : PlanState} (row : CatalogRow) (pages : List ℕ) (p : ℕ) (rest all : List ℕ) (sum count : ℕ) (bytes : List ℕ) → all ≡ p ∷ rest → Counted a b row pages all sum
    → Does b c (heap_page b.view.shape row p) (Ok bytes) → count ≡ slot_count bytes → Counted a c row pages rest (sum + count)
counted_step {a} {b} {c} row pages p rest all sum count bytes e before d is =
    let at : Counted a b row pages (p ∷ rest) sum = subst (λ (ps : List ℕ). Counted a b row pages ps sum) e before in
    record {
      found = at.found ++ bytes ∷ [];
      leads = all_step (heap_page a.view.shape row) at.found p rest bytes at.leads (here a.view.shape row p at.leads.stays.shape d);
      rows = ap (λ n. n + count) at.rows ∙ ap (λ n. sum_by slot_count at.found + n) is ∙ sym (sum_more at.found bytes);
    }

pub counted_exit : {a b c : PlanState} {C : Type 0} (row : CatalogRow) (pages : List ℕ) (p : ℕ) (rest all : List ℕ) (sum : ℕ) (f : C → Reply) {stop : PageStop} (r : Result C PageStop) → all ≡ p ∷ rest
    → Counted a b row pages all sum → Does b c (heap_page b.view.shape row p) (Err stop) → IsErrAnd r (λ s. s ≡ stop) → Does a c (rows_counted a.view.shape row pages) (value_as f r)
counted_exit {a} {b} {c} row pages p rest all sum f {stop} r e before d h =
    let at : Counted a b row pages (p ∷ rest) sum = subst (λ (ps : List ℕ). Counted a b row pages ps sum) e before in
    let stopped : Result (List (List ℕ)) PageStop = Err stop in
    let whole : Does a c (all_of (heap_page a.view.shape row) pages) stopped = all_exit (heap_page a.view.shape row) at.found p rest at.leads (here a.view.shape row p at.leads.stays.shape d) refl in
    does_exit_as _ f stop r refl whole h

pub counted_end : {a b : PlanState} (row : CatalogRow) (pages rest : List ℕ) (sum : ℕ) → rest ≡ [] → Counted a b row pages rest sum
    → Does a b (rows_counted a.view.shape row pages) (Ok (Rows sum []))
counted_end {a} {b} row pages rest sum e before =
    let at : Counted a b row pages [] sum = subst (λ (ps : List ℕ). Counted a b row pages ps sum) e before in
    subst (λ n. Does a b (rows_counted a.view.shape row pages) (Ok (Rows n []))) (sym at.rows)
    (does_then _ (all_end (heap_page a.view.shape row) at.found at.leads) (does_give [] b (Rows (sum_by slot_count at.found) [])))
