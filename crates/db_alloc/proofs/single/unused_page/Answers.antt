use Rattle.std.proofs.Common.{refl, Some, None}
use Rattle.spec_alloc.specs.SinglePages.{of_free}
use Rattle.db_alloc.specs.declared.search.Wanted.TheVariants.{Unused}
use Rattle.db_alloc.proofs.SingleSteps.{found_as, taken_after, none_taken, one_taken, one_stopped}
use Rattle.db_alloc.proofs.Steps.{does_exit_as}
use Rattle.db_alloc.proofs.single.unused_page.Goals as goal

pub returns-in_err-p-clause-does : goal.returns-in_err-p-clause-does
returns-in_err-p-clause-does g c = does_exit_as _ _ c.in_err-p.field-0.0 _ refl c.in_err-p.ensures.does c.from_residual.ensures.1

pub returns-in_err-take_free-in-Some-clause-does : goal.returns-in_err-take_free-in-Some-clause-does
returns-in_err-take_free-in-Some-clause-does g c =
    let a = g.P.PlanPages.state c.args.v.now in
    let found = found_as _ (Some c.in-Some.p) c.in-Some.is c.in_ok-p.ensures.does in
    one_stopped Unused (of_free a.view.shape c.args.byte) c.in-Some.p.0 _ _ found
    (taken_after Unused (λ shape. of_free shape c.args.byte) c.in-Some.p.0 c.in_ok-p.ensures.view found c.in_err-take_free-in-Some.ensures.does)
    c.from_residual-in_err-take_free-in-Some.ensures.1

pub returns-in_ok-take_free-in-Some-clause-does : goal.returns-in_ok-take_free-in-Some-clause-does
returns-in_ok-take_free-in-Some-clause-does g c =
    let a = g.P.PlanPages.state c.args.v.now in
    let found = found_as _ (Some c.in-Some.p) c.in-Some.is c.in_ok-p.ensures.does in
    one_taken Unused (of_free a.view.shape c.args.byte) c.in-Some.p.0 _ found
    (taken_after Unused (λ shape. of_free shape c.args.byte) c.in-Some.p.0 c.in_ok-p.ensures.view found c.in_ok-take_free-in-Some.ensures.does)

pub returns-in-None-clause-does : goal.returns-in-None-clause-does
returns-in-None-clause-does g c =
    let a = g.P.PlanPages.state c.args.v.now in
    none_taken Unused (of_free a.view.shape c.args.byte) (found_as _ None c.in-None.is c.in_ok-p.ensures.does)
