use Rattle.std.proofs.Common.{refl, sym, ap, ◌∙◌, subst}
use Rattle.std.specs.Prelude.{IfOk, IfSome}
use Rattle.spec_words.specs.NetChanges.{FileShape}
use Rattle.spec_alloc.specs.ObjectPages.{marked_page, extent_page}
use Rattle.db_cat.specs.Rows.{row_of}
use Rattle.db_locks.specs.Does.{stop_of}
use Rattle.db_locks.proofs.PlanLaws.{does_stop}
use Rattle.db_alloc.specs.Maps.{IsOwnable}
use Rattle.db_alloc.specs.Tables.{numbers}
use Rattle.db_alloc.proofs.ObjectSteps.{page_stopped}
use Rattle.db_alloc.proofs.OnePageSteps.{all_reached, all_read, chain_later}
use Rattle.db_alloc.proofs.SingleSteps.{either_found, either_later, may_read_later}
use Rattle.db_alloc.proofs.Steps.{does_plan, does_ok}
use Rattle.db_alloc.proofs.Unchanged.{marked_none, none_same}
use Rattle.db_alloc.proofs.one_page.page_of_extent.Goals as goal

pub returns-in_err-found-clause-does : goal.returns-in_err-found-clause-does
returns-in_err-found-clause-does g c = λ looked read.
    page_stopped _ _ (does_stop {meaning = stop_of} stop_of _ c.in_err-found.field-0.0 refl (c.in_err-found.ensures.does looked read)) c.from_residual.ensures.1

pub returns-then-is_some-clause-does : goal.returns-then-is_some-clause-does
returns-then-is_some-clause-does g c = λ looked read.
    let a = g.P.PlanPages.state c.args.v.now in
    let row = row_of c.args.table.now.row in
    let chain = numbers c.args.chain.now.numbers.items in
    let path = numbers c.args.path.now in
    either_found (marked_page a.view.shape chain path) (extent_page a.view.shape row chain path) c.in_ok-found.found (sym c.is_some.ensures ∙ c.if-is_some.true) (does_ok {meaning = stop_of} (c.in_ok-found.ensures.does looked read))

pub extent_page-requires-clause-reader : goal.extent_page-requires-clause-reader
extent_page-requires-clause-reader g c =
    let a = g.P.PlanPages.state c.args.v.now in
    let chain = numbers c.args.chain.now.numbers.items in
    may_read_later c.args.reader (c.in_ok-found.ensures.does (all_reached a.view.shape chain) (λ told. all_read a.view chain)).stays c.requires.reader

pub extent_page-requires-clause-chain : goal.extent_page-requires-clause-chain
extent_page-requires-clause-chain g c =
    let a = g.P.PlanPages.state c.args.v.now in
    let chain = numbers c.args.chain.now.numbers.items in
    let path = numbers c.args.path.now in
    let done = c.in_ok-found.ensures.does (all_reached a.view.shape chain) (λ told. all_read a.view chain) in
    chain_later c.args.chain.now done.stays (none_same (marked_page a.view.shape chain path) c.in_ok-found.found (marked_none a.view.shape chain path) (sym c.is_some.ensures ∙ c.if-is_some.false) done) c.requires.chain

pub returns-clause-does : goal.returns-clause-does
returns-clause-does g c = λ looked read.
    let a = g.P.PlanPages.state c.args.v.now in
    let row = row_of c.args.table.now.row in
    let chain = numbers c.args.chain.now.numbers.items in
    let path = numbers c.args.path.now in
    let done = c.in_ok-found.ensures.does looked read in
    either_later (marked_page a.view.shape chain path) (extent_page a.view.shape row chain path) c.in_ok-found.found (sym c.is_some.ensures ∙ c.if-is_some.false) (does_ok {meaning = stop_of} done)
    (does_plan (ap (λ (s : FileShape). extent_page s row chain path) done.stays.shape) (c.extent_page.ensures.does looked (λ told q h. (read (sym done.stays.told ∙ told)).pages q h)))

pub returns-clause-ownable : goal.returns-clause-ownable
returns-clause-ownable g c =
    let a = g.P.PlanPages.state c.args.v.now in
    let chain = numbers c.args.chain.now.numbers.items in
    let done = c.in_ok-found.ensures.does (all_reached a.view.shape chain) (λ told. all_read a.view chain) in
    subst (λ (s : FileShape). IfOk c.extent_page.result (λ found. IfSome found (λ p. IsOwnable s p.0))) done.stays.shape c.extent_page.ensures.ownable
