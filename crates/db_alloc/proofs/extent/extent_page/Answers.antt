use Rattle.std.proofs.Common.{◌<◌, ◌++◌, Option, Some, None, refl, sym, ap, ◌∙◌, subst}
use Rattle.std.specs.Prelude.{IfSome}
use Rattle.std.proofs.lemmas.List.Elements.{Contains-append_left}
use Rattle.spec_file.specs.declared.data.PageNo.{PageNo}
use Rattle.spec_words.specs.Views.{View}
use Rattle.spec_alloc.specs.Search.{search}
use Rattle.spec_alloc.specs.SinglePages.{is_unused, first_page_of}
use Rattle.spec_alloc.specs.ObjectPages.{extent_marked}
use Rattle.db_cat.specs.Rows.{row_of}
use Rattle.db_locks.specs.Does.{stop_of}
use Rattle.db_locks.proofs.PlanLaws.{does_after, does_more, does_stop, does_give}
use Rattle.db_alloc.specs.declared.search.Wanted.TheVariants.{Unused}
use Rattle.db_alloc.specs.Maps.{IsOwnable}
use Rattle.db_alloc.specs.Searches.{WereReached}
use Rattle.db_alloc.specs.Tables.{numbers}
use Rattle.db_alloc.proofs.ObjectSteps.{page_stopped}
use Rattle.db_alloc.proofs.OnePageSteps.{chain_later}
use Rattle.db_alloc.proofs.Reached.{reached_right}
use Rattle.db_alloc.proofs.SingleSteps.{does_next, found_as, found_reached, may_read_later}
use Rattle.db_alloc.proofs.Steps.{does_plan, does_exit_as, does_ok}
use Rattle.db_alloc.proofs.extent.extent_page.Goals as goal

pub returns-in_err-p-clause-does : goal.returns-in_err-p-clause-does
returns-in_err-p-clause-does g c = λ looked before.
    page_stopped _ _ (does_stop {meaning = stop_of} stop_of _ c.in_err-p.field-0.0 refl (does_more looked c.in_err-p.ensures.does)) c.from_residual.ensures.1

pub mark_extent-requires-clause-chain : goal.mark_extent-requires-clause-chain
mark_extent-requires-clause-chain g c = chain_later c.args.chain.now c.in_ok-p.ensures.does.stays (λ told. c.in_ok-p.ensures.view) c.requires.chain

pub mark_extent-requires-clause-reader : goal.mark_extent-requires-clause-reader
mark_extent-requires-clause-reader g c = may_read_later c.args.reader c.in_ok-p.ensures.does.stays c.requires.reader

pub mark_extent-requires-clause-inside : goal.mark_extent-requires-clause-inside
mark_extent-requires-clause-inside g c =
    let a = g.P.PlanPages.state c.args.v.now in
    let own = subst (λ (o : Option PageNo). IfSome o (λ p. IsOwnable a.view.shape p.0)) c.in-Some.is c.in_ok-p.ensures.ownable in
    subst (λ (v : View). c.in-Some.p.0 < v.shape.pages) (sym c.in_ok-p.ensures.view) own.inside

pub returns-in_err-mark_extent-in-Some-clause-does : goal.returns-in_err-mark_extent-in-Some-clause-does
returns-in_err-mark_extent-in-Some-clause-does g c = λ looked before.
    let a = g.P.PlanPages.state c.args.v.now in
    let row = row_of c.args.table.now.row in
    let chain = numbers c.args.chain.now.numbers.items in
    let path = numbers c.args.path.now in
    let p = c.in-Some.p.0 in
    let found = found_as _ (Some c.in-Some.p) c.in-Some.is c.in_ok-p.ensures.does in
    let reached = (search a.view.shape (is_unused a.view.shape) (first_page_of a.view.shape) a.view).reached in
    let marked = c.in_err-mark_extent-in-Some.ensures (looked ++ reached)
    (λ told. subst (λ (v : View). WereReached (looked ++ reached) v.shape p) (sym c.in_ok-p.ensures.view) (reached_right looked reached a.view.shape p (found_reached Unused p found (sym found.stays.told ∙ told))))
    (λ told q h. Contains-append_left looked reached q (before (sym found.stays.told ∙ told) q h)) in
    does_after _ (does_ok {meaning = stop_of} (does_more looked found))
    (does_exit_as _ _ c.in_err-mark_extent-in-Some.field-0.0 _ refl
    (does_plan (ap (λ (v : View). extent_marked v.shape row chain path p) c.in_ok-p.ensures.view) marked)
    c.from_residual-in_err-mark_extent-in-Some.ensures.1)

pub returns-in_ok-mark_extent-in-Some-clause-does : goal.returns-in_ok-mark_extent-in-Some-clause-does
returns-in_ok-mark_extent-in-Some-clause-does g c = λ looked before.
    let a = g.P.PlanPages.state c.args.v.now in
    let d = g.P.PlanPages.state c.mark_extent.new.v in
    let row = row_of c.args.table.now.row in
    let chain = numbers c.args.chain.now.numbers.items in
    let path = numbers c.args.path.now in
    let p = c.in-Some.p.0 in
    let found = found_as _ (Some c.in-Some.p) c.in-Some.is c.in_ok-p.ensures.does in
    let reached = (search a.view.shape (is_unused a.view.shape) (first_page_of a.view.shape) a.view).reached in
    let marked = c.in_ok-mark_extent-in-Some.ensures (looked ++ reached)
    (λ told. subst (λ (v : View). WereReached (looked ++ reached) v.shape p) (sym c.in_ok-p.ensures.view) (reached_right looked reached a.view.shape p (found_reached Unused p found (sym found.stays.told ∙ told))))
    (λ told q h. Contains-append_left looked reached q (before (sym found.stays.told ∙ told) q h)) in
    does_after _ (does_ok {meaning = stop_of} (does_more looked found))
    (does_next _ (does_plan (ap (λ (v : View). extent_marked v.shape row chain path p) c.in_ok-p.ensures.view) marked) (does_give (looked ++ reached) d (Some p)))

pub returns-in-None-clause-does : goal.returns-in-None-clause-does
returns-in-None-clause-does g c = λ looked before.
    let b = g.P.PlanPages.state c.search.new.v in
    does_next _ (does_ok {meaning = stop_of} (does_more looked (found_as _ None c.in-None.is c.in_ok-p.ensures.does))) (does_give looked b None)
