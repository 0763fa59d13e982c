use Rattle.std.proofs.Common.{ℕ, [], refl, ap, Some, None}
use Rattle.spec_words.specs.NetChanges.{FileShape}
use Rattle.spec_alloc.specs.SinglePages.{single_page, no_page}
use Rattle.db_locks.specs.Does.{stop_of}
use Rattle.db_locks.proofs.PlanLaws.{does_then, does_stop, does_give}
use Rattle.db_alloc.specs.Results.{alloc_stop}
use Rattle.db_alloc.proofs.ObjectSteps.{page_stopped}
use Rattle.db_alloc.proofs.SingleSteps.{found_as}
use Rattle.db_alloc.proofs.Steps.{does_plan, does_ok}
use Rattle.db_alloc.proofs.object.new_chain.Goals as goal

pub returns-in_err-q : goal.returns-in_err-q
returns-in_err-q g c =
    let a = g.P.PlanPages.state c.args.v.now in
    page_stopped _ _ (does_stop {meaning = stop_of} stop_of _ c.in_err-q.field-0.0 refl (does_plan (ap (single_page a.view.shape) c.expected.ensures) c.in_err-q.ensures.does)) c.from_residual-in_err-q.ensures.1

pub returns-in_err-put_chain-in-Some : goal.returns-in_err-put_chain-in-Some
returns-in_err-put_chain-in-Some g c =
    let a = g.P.PlanPages.state c.args.v.now in
    let b = g.P.PlanPages.state c.single_page.new.v in
    page_stopped _ _
    (does_then _ (does_plan (ap (single_page a.view.shape) c.expected.ensures) (found_as _ (Some c.in-Some.q) c.in-Some.is c.in_ok-q.ensures.does))
    (does_then _ (does_give [] b c.in-Some.q.0) c.in_err-put_chain-in-Some.ensures))
    c.from_residual-in_err-put_chain-in-Some.ensures.1

pub returns-in-Some : goal.returns-in-Some
returns-in-Some g c =
    let a = g.P.PlanPages.state c.args.v.now in
    let b = g.P.PlanPages.state c.single_page.new.v in
    does_ok {meaning = stop_of}
    (does_then _ (does_plan (ap (single_page a.view.shape) c.expected.ensures) (found_as _ (Some c.in-Some.q) c.in-Some.is c.in_ok-q.ensures.does))
    (does_then _ (does_give [] b c.in-Some.q.0) c.in_ok-put_chain-in-Some.ensures))

pub returns : goal.returns
returns g c =
    let a = g.P.PlanPages.state c.args.v.now in
    does_then _ (does_ok {meaning = stop_of} (does_plan (ap (single_page a.view.shape) c.expected.ensures) (found_as _ None c.in-None.is c.in_ok-q.ensures.does)))
    (does_stop {meaning = alloc_stop} alloc_stop _ c.no_page.result refl
    (does_plan (ap (λ (s : FileShape). no_page {A = ℕ} s) c.in_ok-q.ensures.does.stays.shape) (c.no_page.ensures [])))
