use Rattle.std.proofs.Common.{[], ◌∷◌, IsTrue, Contains, refl, sym, ap, ◌∙◌, subst}
use Rattle.std.specs.Prelude.{IfOk, IfSome}
use Rattle.std.proofs.lemmas.List.Elements.{Contains-push}
use Rattle.spec_plan.specs.Reading.{first_page}
use Rattle.spec_words.specs.NetChanges.{FileShape}
use Rattle.spec_alloc.specs.ObjectPages.{slot_page}
use Rattle.db_cat.specs.Rows.{row_of}
use Rattle.db_locks.specs.Does.{stop_of}
use Rattle.db_locks.proofs.PlanLaws.{does_stop}
use Rattle.db_alloc.specs.Maps.{IsOwnable}
use Rattle.db_alloc.specs.Objects.{extent_had}
use Rattle.db_alloc.specs.Tables.{numbers}
use Rattle.db_alloc.proofs.ObjectSteps.{page_stopped}
use Rattle.db_alloc.proofs.OnePageSteps.{chain_later, read_later}
use Rattle.db_alloc.proofs.SingleSteps.{either_found, either_later, may_read_later, stays_of}
use Rattle.db_alloc.proofs.SlotSteps.{first_contained, some_numbers}
use Rattle.db_alloc.proofs.Steps.{does_plan, does_ok}
use Rattle.db_alloc.proofs.Unchanged.{slot_none, none_same}
use Rattle.db_alloc.proofs.one_page.next_page.Goals as goal

pub returns-in_err-found-clause-does : goal.returns-in_err-found-clause-does
returns-in_err-found-clause-does g c = λ looked read.
    let chain = numbers c.args.chain.now.numbers.items in
    let own = c.requires.chain in
    let first : IsTrue (g.P.PlanPages.state c.args.v.now).told → Contains looked (first_page chain) = λ told. (read told).pages (first_page chain) (first_contained chain (some_numbers c.args.chain.now.numbers.items own.is.some)) in
    page_stopped _ _ (does_stop {meaning = stop_of} stop_of _ c.in_err-found.field-0.0 refl (c.in_err-found.ensures.does looked first)) c.from_residual.ensures.1

pub returns-then-is_some-clause-does : goal.returns-then-is_some-clause-does
returns-then-is_some-clause-does g c = λ looked read.
    let a = g.P.PlanPages.state c.args.v.now in
    let row = row_of c.args.table.now.row in
    let chain = numbers c.args.chain.now.numbers.items in
    let path = numbers c.args.path.now in
    let own = c.requires.chain in
    let first : IsTrue (g.P.PlanPages.state c.args.v.now).told → Contains looked (first_page chain) = λ told. (read told).pages (first_page chain) (first_contained chain (some_numbers c.args.chain.now.numbers.items own.is.some)) in
    either_found (slot_page a.view.shape chain path) (extent_had a.view.shape row chain path) c.in_ok-found.found (sym c.is_some.ensures ∙ c.if-is_some.true) (does_ok {meaning = stop_of} (c.in_ok-found.ensures.does looked first))

pub page_of_extent-requires-clause-geometry : goal.page_of_extent-requires-clause-geometry
page_of_extent-requires-clause-geometry g c = c.requires.geometry ∙ ap (λ (s : FileShape). s.geometry) (sym (stays_of _ c.in_ok-found.ensures.does).shape)

pub page_of_extent-requires-clause-pages : goal.page_of_extent-requires-clause-pages
page_of_extent-requires-clause-pages g c = c.requires.pages ∙ ap (λ (s : FileShape). s.pages) (sym (stays_of _ c.in_ok-found.ensures.does).shape)

pub page_of_extent-requires-clause-reader : goal.page_of_extent-requires-clause-reader
page_of_extent-requires-clause-reader g c = may_read_later c.args.reader (stays_of _ c.in_ok-found.ensures.does) c.requires.reader

pub page_of_extent-requires-clause-chain : goal.page_of_extent-requires-clause-chain
page_of_extent-requires-clause-chain g c =
    let a = g.P.PlanPages.state c.args.v.now in
    let chain = numbers c.args.chain.now.numbers.items in
    let path = numbers c.args.path.now in
    let first = first_page chain in
    let done = c.in_ok-found.ensures.does (first ∷ []) (λ told. Contains-push [] first) in
    chain_later c.args.chain.now done.stays (none_same (slot_page a.view.shape chain path) c.in_ok-found.found (slot_none a.view.shape chain path) (sym c.is_some.ensures ∙ c.if-is_some.false) done) c.requires.chain

pub returns-clause-does : goal.returns-clause-does
returns-clause-does g c = λ looked read.
    let a = g.P.PlanPages.state c.args.v.now in
    let row = row_of c.args.table.now.row in
    let chain = numbers c.args.chain.now.numbers.items in
    let path = numbers c.args.path.now in
    let own = c.requires.chain in
    let none = sym c.is_some.ensures ∙ c.if-is_some.false in
    let done = c.in_ok-found.ensures.does looked (λ told. (read told).pages (first_page chain) (first_contained chain (some_numbers c.args.chain.now.numbers.items own.is.some))) in
    let same = none_same (slot_page a.view.shape chain path) c.in_ok-found.found (slot_none a.view.shape chain path) none done in
    either_later (slot_page a.view.shape chain path) (extent_had a.view.shape row chain path) c.in_ok-found.found none (does_ok {meaning = stop_of} done)
    (does_plan (ap (λ (s : FileShape). extent_had s row chain path) done.stays.shape) (c.page_of_extent.ensures.does looked (read_later looked chain done.stays same read)))

pub returns-clause-ownable : goal.returns-clause-ownable
returns-clause-ownable g c = subst (λ (s : FileShape). IfOk c.page_of_extent.result (λ found. IfSome found (λ p. IsOwnable s p.0))) (stays_of _ c.in_ok-found.ensures.does).shape c.page_of_extent.ensures.ownable
