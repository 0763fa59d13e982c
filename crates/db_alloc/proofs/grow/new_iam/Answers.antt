use Rattle.std.proofs.Common.{ℕ, refl, sym, ap, ◌∙◌, Some, None}
use Rattle.spec_words.specs.NetChanges.{FileShape}
use Rattle.spec_alloc.specs.SinglePages.{single_page, no_page}
use Rattle.db_locks.specs.Does.{stop_of}
use Rattle.db_locks.proofs.PlanLaws.{does_more, does_stop, does_give}
use Rattle.db_alloc.specs.Objects.{last_page_put}
use Rattle.db_alloc.specs.Results.{alloc_stop}
use Rattle.db_alloc.specs.Tables.{numbers}
use Rattle.db_alloc.proofs.GrowSteps.{chain_stays, interval_is}
use Rattle.db_alloc.proofs.ObjectSteps.{page_stopped}
use Rattle.db_alloc.proofs.SingleSteps.{does_next, found_as}
use Rattle.db_alloc.proofs.Steps.{does_plan, does_ok}
use Rattle.db_alloc.proofs.grow.new_iam.Goals as goal

pub returns-in_err-q-clause-does : goal.returns-in_err-q-clause-does
returns-in_err-q-clause-does g c = λ looked before.
    let a = g.P.PlanPages.state c.args.v.now in
    page_stopped _ _ (does_stop {meaning = stop_of} stop_of _ c.in_err-q.field-0.0 refl (does_more looked (does_plan (ap (single_page a.view.shape) c.expected.ensures) c.in_err-q.ensures.does))) c.from_residual.ensures.1

pub put_last-requires-clause-chain : goal.put_last-requires-clause-chain
put_last-requires-clause-chain g c = chain_stays c.args.chain.now c.in_ok-q.ensures.does.stays c.requires.chain

pub returns-in_err-put_last-in-Some-clause-does : goal.returns-in_err-put_last-in-Some-clause-does
returns-in_err-put_last-in-Some-clause-does g c = λ looked before.
    let a = g.P.PlanPages.state c.args.v.now in
    let b = g.P.PlanPages.state c.single_page.new.v in
    let q = c.in-Some.q.0 in
    let single = does_plan (ap (single_page a.view.shape) c.expected.ensures) (found_as _ (Some c.in-Some.q) c.in-Some.is c.in_ok-q.ensures.does) in
    let interval = interval_is c.args.reader.geometry a.view.shape.geometry c.interval_pages.result c.args.p.0 c.interval_pages.ensures c.requires.reader.geometry in
    page_stopped _ _
    (does_next _ (does_more looked single)
    (does_next _ (does_give looked b q)
    (does_plan (ap (λ (m : ℕ). last_page_put c.args.table.now.row.id.0 (numbers c.args.chain.now) (numbers c.args.path.now) m q) interval)
    (c.in_err-put_last-in-Some.ensures looked (λ told. before (sym single.stays.told ∙ told))))))
    c.from_residual-in_err-put_last-in-Some.ensures.1

pub returns-in_ok-put_last-in-Some-clause-does : goal.returns-in_ok-put_last-in-Some-clause-does
returns-in_ok-put_last-in-Some-clause-does g c = λ looked before.
    let a = g.P.PlanPages.state c.args.v.now in
    let b = g.P.PlanPages.state c.single_page.new.v in
    let q = c.in-Some.q.0 in
    let single = does_plan (ap (single_page a.view.shape) c.expected.ensures) (found_as _ (Some c.in-Some.q) c.in-Some.is c.in_ok-q.ensures.does) in
    let interval = interval_is c.args.reader.geometry a.view.shape.geometry c.interval_pages.result c.args.p.0 c.interval_pages.ensures c.requires.reader.geometry in
    does_ok {meaning = stop_of}
    (does_next _ (does_more looked single)
    (does_next _ (does_give looked b q)
    (does_plan (ap (λ (m : ℕ). last_page_put c.args.table.now.row.id.0 (numbers c.args.chain.now) (numbers c.args.path.now) m q) interval)
    (c.in_ok-put_last-in-Some.ensures looked (λ told. before (sym single.stays.told ∙ told))))))

pub returns-in-None-clause-does : goal.returns-in-None-clause-does
returns-in-None-clause-does g c = λ looked before.
    let a = g.P.PlanPages.state c.args.v.now in
    let single = does_plan (ap (single_page a.view.shape) c.expected.ensures) (found_as _ None c.in-None.is c.in_ok-q.ensures.does) in
    does_next _ (does_ok {meaning = stop_of} (does_more looked single))
    (does_stop {meaning = alloc_stop} alloc_stop _ c.no_page.result refl
    (does_plan (ap (λ (s : FileShape). no_page {A = ℕ} s) single.stays.shape) (c.no_page.ensures looked)))
