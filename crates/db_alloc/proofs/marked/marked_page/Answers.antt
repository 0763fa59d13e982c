use Rattle.std.proofs.Common.{◌++◌, List, Option, Some, None, refl, ap, ◌∙◌, subst}
use Rattle.std.specs.Prelude.{IfSome}
use Rattle.spec_file.specs.declared.data.PageNo.{PageNo}
use Rattle.spec_words.specs.Views.{View}
use Rattle.spec_alloc.specs.ObjectPages.{marked_page_taken}
use Rattle.db_locks.proofs.PlanLaws.{does_give}
use Rattle.db_alloc.specs.Maps.{IsOwnable}
use Rattle.db_alloc.specs.Tables.{numbers}
use Rattle.db_alloc.proofs.MarkedSteps.{found_reached}
use Rattle.db_alloc.proofs.SingleSteps.{does_next, found_as}
use Rattle.db_alloc.proofs.Steps.{does_plan, does_exit_as}
use Rattle.db_alloc.proofs.marked.marked_page.Goals as goal

pub returns-in_err-p-clause-does : goal.returns-in_err-p-clause-does
returns-in_err-p-clause-does g c = λ looked read. does_exit_as _ _ c.in_err-p.field-0.0 _ refl (c.in_err-p.ensures.does looked read) c.from_residual.ensures.1

pub returns-in_err-take_marked-in-Some-clause-does : goal.returns-in_err-take_marked-in-Some-clause-does
returns-in_err-take_marked-in-Some-clause-does g c = λ looked read.
    let a = g.P.PlanPages.state c.args.v.now in
    let chain = numbers c.args.chain.now.numbers.items in
    let path = numbers c.args.path.now in
    let found = found_as _ (Some c.in-Some.p) c.in-Some.is (c.in_ok-p.ensures.does looked read) in
    let own = subst (λ (o : Option PageNo). IfSome o (λ p. IsOwnable a.view.shape p.0)) c.in-Some.is c.in_ok-p.ensures.ownable in
    does_next _ found
    (does_exit_as _ _ c.in_err-take_marked-in-Some.field-0.0 _ refl
    (does_plan (ap (λ (v : View). marked_page_taken v.shape (numbers c.deref.result.now ++ path) c.in-Some.p.0) c.in_ok-p.ensures.view ∙ ap (λ (ps : List PageNo). marked_page_taken a.view.shape (numbers ps ++ path) c.in-Some.p.0) c.deref.ensures.value)
    (c.in_err-take_marked-in-Some.ensures looked (found_reached looked chain c.in-Some.p.0 read found own.inside c.in_ok-p.ensures.view)))
    c.from_residual-in_err-take_marked-in-Some.ensures.1)

pub returns-in_ok-take_marked-in-Some-clause-does : goal.returns-in_ok-take_marked-in-Some-clause-does
returns-in_ok-take_marked-in-Some-clause-does g c = λ looked read.
    let a = g.P.PlanPages.state c.args.v.now in
    let chain = numbers c.args.chain.now.numbers.items in
    let path = numbers c.args.path.now in
    let found = found_as _ (Some c.in-Some.p) c.in-Some.is (c.in_ok-p.ensures.does looked read) in
    let own = subst (λ (o : Option PageNo). IfSome o (λ p. IsOwnable a.view.shape p.0)) c.in-Some.is c.in_ok-p.ensures.ownable in
    does_next _ found
    (does_next _ (does_plan (ap (λ (v : View). marked_page_taken v.shape (numbers c.deref.result.now ++ path) c.in-Some.p.0) c.in_ok-p.ensures.view ∙ ap (λ (ps : List PageNo). marked_page_taken a.view.shape (numbers ps ++ path) c.in-Some.p.0) c.deref.ensures.value)
    (c.in_ok-take_marked-in-Some.ensures looked (found_reached looked chain c.in-Some.p.0 read found own.inside c.in_ok-p.ensures.view)))
    (does_give looked (g.P.PlanPages.state c.take_marked.new.v) (Some c.in-Some.p.0)))

pub returns-in-None-clause-does : goal.returns-in-None-clause-does
returns-in-None-clause-does g c = λ looked read. does_next _ (found_as _ None c.in-None.is (c.in_ok-p.ensures.does looked read)) (does_give looked (g.P.PlanPages.state c.lowest_marked.new.v) None)
