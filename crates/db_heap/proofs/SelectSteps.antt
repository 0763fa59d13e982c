-- Rows of a key are gathered, page by page.
use Rattle.std.proofs.Common.{◌≡◌, refl, ℕ, List, [], ◌∷◌, ◌++◌, Result, Ok, Err, sym, ap, ◌∙◌, subst}
use Rattle.std.specs.Prelude.{IsErrAnd, flat_map, true}
use Rattle.std.proofs.lemmas.Grind.{flat_map-append}
use Rattle.std.proofs.lemmas.List.Concat.{flat_map-cons}
use Rattle.std.proofs.lemmas.List.{append-nil}
use Rattle.spec_file.specs.CatalogRows.{CatalogRow}
use Rattle.spec_plan.specs.Rows.{passes_page, payloads_of}
use Rattle.spec_script.specs.declared.reply.Reply.{Reply}
use Rattle.spec_words.specs.NetChanges.{FileShape}
use Rattle.spec_words.specs.Views.{Plan}
use Rattle.spec_words.specs.Words.{all_of}
use Rattle.spec_words.specs.Tables.{table_pages}
use Rattle.spec_words.specs.Orders.{in_rising_order}
use Rattle.spec_words.specs.Heaps.{heap_page, rows_found}
use Rattle.heap_page.specs.Pages.{IsHeapPage}
use Rattle.db_locks.specs.declared.plan_pages.PageStop.{PageStop}
use Rattle.db_locks.specs.declared.plan_pages.PageStop.TheVariants.{NoMemory}
use Rattle.db_locks.specs.States.{PlanState}
use Rattle.db_locks.specs.Does.{Does, stop_of}
use Rattle.db_locks.proofs.PlanLaws.{does_then, does_give}
use Rattle.db_locks.proofs.LoopLaws.{Leads, rest_of, all_begin, all_step, all_exit, all_end}
use Rattle.db_alloc.specs.Results.{value_as}
use Rattle.db_alloc.proofs.Steps.{does_plan, does_exit_as}
use Rattle.db_heap.specs.Selects.{rows_selected, table_selected}

-- memory may run out behind a call
pub does_short : {A B : Type 0} {a b : PlanState} {plan : Plan A} (x : A) (other : Plan B) → Does a b plan (Ok x) → Does {A = B} a b other (Err NoMemory)
does_short x other d = record { exact = λ told. tt; stays = d.stays; cause = tt }

-- a page that passed its test
pub as_heap_page : (p : ℕ) (o : ℕ) (bytes : List ℕ) → passes_page p o bytes ≡ true → IsHeapPage bytes
as_heap_page p o bytes passes = (p, o, passes)

-- of these pages the rest is to be read, and these payloads were found
pub record Gathered (a b : PlanState) (row : CatalogRow) (key : ℕ) (pages rest : List ℕ) (payloads : List (List ℕ)) : Type 0 where
  pub found : List (List ℕ)
  pub leads : Leads stop_of [] a b (all_of (heap_page a.view.shape row) pages) (rest_of (heap_page a.view.shape row) found rest)
  pub rows : payloads ≡ flat_map (payloads_of key) found

pub gathered_begin : (a : PlanState) (row : CatalogRow) (key : ℕ) (pages : List ℕ) (payloads : List (List ℕ)) → payloads ≡ [] → Gathered a a row key pages pages payloads
gathered_begin a row key pages payloads none = record { found = []; leads = all_begin stop_of [] a (heap_page a.view.shape row) pages; rows = none }

more : (key : ℕ) (found : List (List ℕ)) (bytes : List ℕ) → flat_map (payloads_of key) (found ++ bytes ∷ []) ≡ flat_map (payloads_of key) found ++ payloads_of key bytes
more key found bytes =
    flat_map-append (payloads_of key) found (bytes ∷ [])
    ∙ ap (λ l. flat_map (payloads_of key) found ++ l) (flat_map-cons (payloads_of key) bytes [] ∙ append-nil (payloads_of key bytes))

here : {b c : PlanState} (shape : FileShape) (row : CatalogRow) (p : ℕ) {result : Result (List ℕ) PageStop} → b.view.shape ≡ shape → Does b c (heap_page b.view.shape row p) result
    → Does b c (heap_page shape row p) result
here shape row p same d = does_plan (ap (λ (shape : FileShape). heap_page shape row p) same) d

pub gathered_step : {a b c : PlanState} (row : CatalogRow) (key : ℕ) (pages : List ℕ) (p : ℕ) (rest all : List ℕ) (before now : List (List ℕ)) (bytes : List ℕ) → all ≡ p ∷ rest
    → Gathered a b row key pages all before → Does b c (heap_page b.view.shape row p) (Ok bytes) → now ≡ before ++ payloads_of key bytes → Gathered a c row key pages rest now
gathered_step {a} {b} {c} row key pages p rest all before now bytes e gathered d is =
    let at : Gathered a b row key pages (p ∷ rest) before = subst (λ (ps : List ℕ). Gathered a b row key pages ps before) e gathered in
    record {
      found = at.found ++ bytes ∷ [];
      leads = all_step (heap_page a.view.shape row) at.found p rest bytes at.leads (here a.view.shape row p at.leads.stays.shape d);
      rows = is ∙ ap (λ l. l ++ payloads_of key bytes) at.rows ∙ sym (more key at.found bytes);
    }

pub gathered_exit : {a b c : PlanState} {C : Type 0} (row : CatalogRow) (key : ℕ) (pages : List ℕ) (p : ℕ) (rest all : List ℕ) (before : List (List ℕ)) (f : C → Reply) {stop : PageStop} (r : Result C PageStop)
    → all ≡ p ∷ rest → Gathered a b row key pages all before → Does b c (heap_page b.view.shape row p) (Err stop) → IsErrAnd r (λ s. s ≡ stop) → Does a c (rows_selected a.view.shape row key pages) (value_as f r)
gathered_exit {a} {b} {c} row key pages p rest all before f {stop} r e gathered d h =
    let at : Gathered a b row key pages (p ∷ rest) before = subst (λ (ps : List ℕ). Gathered a b row key pages ps before) e gathered in
    let stopped : Result (List (List ℕ)) PageStop = Err stop in
    let whole : Does a c (all_of (heap_page a.view.shape row) pages) stopped = all_exit (heap_page a.view.shape row) at.found p rest at.leads (here a.view.shape row p at.leads.stays.shape d) refl in
    does_exit_as _ f stop r refl whole h

pub gathered_end : {a b : PlanState} (row : CatalogRow) (key : ℕ) (pages rest : List ℕ) (payloads : List (List ℕ)) → rest ≡ [] → Gathered a b row key pages rest payloads
    → Does a b (rows_selected a.view.shape row key pages) (Ok (rows_found (in_rising_order payloads)))
gathered_end {a} {b} row key pages rest payloads e gathered =
    let at : Gathered a b row key pages [] payloads = subst (λ (ps : List ℕ). Gathered a b row key pages ps payloads) e gathered in
    subst (λ l. Does a b (rows_selected a.view.shape row key pages) (Ok (rows_found (in_rising_order l)))) (sym at.rows)
    (does_then _ (all_end (heap_page a.view.shape row) at.found at.leads) (does_give [] b (rows_found (in_rising_order (flat_map (payloads_of key) at.found)))))

-- the pages of the table were found, and then the rows on them
pub selected_then : {a b c : PlanState} (row : CatalogRow) (key : ℕ) (pages same : List ℕ) {result : Result Reply PageStop} → same ≡ pages → Does a b (table_pages a.view.shape row) (Ok pages)
    → Does b c (rows_selected b.view.shape row key same) result → Does a c (table_selected a.view.shape row key) result
selected_then {a} row key pages same e found d =
    does_then (λ ps. rows_selected a.view.shape row key ps) found
    (does_plan (ap (λ (shape : FileShape). rows_selected shape row key same) found.stays.shape ∙ ap (rows_selected a.view.shape row key) e) d)
