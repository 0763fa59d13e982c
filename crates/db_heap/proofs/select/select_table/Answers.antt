use Rattle.std.proofs.Common.{◌≡◌, ℕ, List, Ok, refl, sym, ap, ◌∙◌, subst}
use Rattle.spec_words.specs.Heaps.{rows_found}
use Rattle.spec_words.specs.Orders.{in_rising_order}
use Rattle.db_cat.specs.Rows.{row_of}
use Rattle.db_locks.specs.Does.{Does}
use Rattle.db_alloc.specs.Tables.{numbers}
use Rattle.db_alloc.proofs.Steps.{does_exit_as}
use Rattle.db_heap.specs.Selects.{table_selected}
use Rattle.db_alloc.proofs.LastSteps.{last_exit}
use Rattle.db_heap.proofs.SelectSteps.{selected_then}
use Rattle.db_heap.proofs.select.select_table.Goals as goal

pub returns-in_err-pages : goal.returns-in_err-pages
returns-in_err-pages g c = does_exit_as _ _ c.in_err-pages.field-0.0 _ refl c.in_err-pages.ensures.does c.from_residual.ensures.1

pub returns-in_err-found : goal.returns-in_err-found
returns-in_err-found g c =
    selected_then (row_of c.args.table.now.row) c.args.key _ _ (ap numbers c.deref.ensures.value) c.in_ok-pages.ensures.does
    (last_exit _ c.in_err-found.field-0.0 _ refl c.in_err-found.ensures c.from_residual-in_err-found.ensures.1)

pub returns : goal.returns
returns g c =
    let old = g.P.PlanPages.state c.args.v.now in
    let new = g.P.PlanPages.state c.find_payloads.new.v in
    let row = row_of c.args.table.now.row in
    let same : in_rising_order c.in_ok-found.found.items ≡ c.from_vec.result = sym (c.from_vec.ensures ∙ c.sort.ensures) in
    subst (λ (payloads : List (List ℕ)). Does old new (table_selected old.view.shape row c.args.key) (Ok (rows_found payloads))) same
    (selected_then row c.args.key _ _ (ap numbers c.deref.ensures.value) c.in_ok-pages.ensures.does c.in_ok-found.ensures)
