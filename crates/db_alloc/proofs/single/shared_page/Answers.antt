use Rattle.std.proofs.Common.{refl, Some, None}
use Rattle.spec_alloc.specs.SinglePages.{of_mixed}
use Rattle.db_alloc.specs.declared.search.Wanted.TheVariants.{Shared}
use Rattle.db_alloc.proofs.SingleSteps.{found_as, taken_after, none_taken, one_taken, one_stopped}
use Rattle.db_alloc.proofs.Steps.{does_exit_as}
use Rattle.db_alloc.proofs.single.shared_page.Goals as goal

pub returns-in_err-p-clause-does : goal.returns-in_err-p-clause-does
returns-in_err-p-clause-does g c = does_exit_as _ _ c.in_err-p.field-0.0 _ refl c.in_err-p.ensures.does c.from_residual.ensures.1

pub returns-in_err-take_mixed-in-Some-clause-does : goal.returns-in_err-take_mixed-in-Some-clause-does
returns-in_err-take_mixed-in-Some-clause-does g c =
    let a = g.P.PlanPages.state c.args.v.now in
    let found = found_as _ (Some c.in-Some.p) c.in-Some.is c.in_ok-p.ensures.does in
    one_stopped Shared (of_mixed a.view.shape c.args.byte) c.in-Some.p.0 _ _ found
    (taken_after Shared (λ shape. of_mixed shape c.args.byte) c.in-Some.p.0 c.in_ok-p.ensures.view found c.in_err-take_mixed-in-Some.ensures.does)
    c.from_residual-in_err-take_mixed-in-Some.ensures.1

pub returns-in_ok-take_mixed-in-Some-clause-does : goal.returns-in_ok-take_mixed-in-Some-clause-does
returns-in_ok-take_mixed-in-Some-clause-does g c =
    let a = g.P.PlanPages.state c.args.v.now in
    let found = found_as _ (Some c.in-Some.p) c.in-Some.is c.in_ok-p.ensures.does in
    one_taken Shared (of_mixed a.view.shape c.args.byte) c.in-Some.p.0 _ found
    (taken_after Shared (λ shape. of_mixed shape c.args.byte) c.in-Some.p.0 c.in_ok-p.ensures.view found c.in_ok-take_mixed-in-Some.ensures.does)

pub returns-in-None-clause-does : goal.returns-in-None-clause-does
returns-in-None-clause-does g c =
    let a = g.P.PlanPages.state c.args.v.now in
    none_taken Shared (of_mixed a.view.shape c.args.byte) (found_as _ None c.in-None.is c.in_ok-p.ensures.does)
