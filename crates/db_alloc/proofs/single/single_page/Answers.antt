use Rattle.std.proofs.Common.{refl, sym, ap, ◌∙◌, subst}
use Rattle.std.specs.Prelude.{IfOk, IfSome}
use Rattle.spec_words.specs.NetChanges.{FileShape}
use Rattle.spec_alloc.specs.SinglePages.{of_mixed, of_free}
use Rattle.db_alloc.specs.declared.search.Wanted.TheVariants.{Shared, Unused}
use Rattle.db_alloc.specs.Maps.{IsOwnable}
use Rattle.db_alloc.proofs.SingleSteps.{taken_by, may_read_later, either_found, either_later}
use Rattle.db_alloc.proofs.Steps.{does_plan, does_exit_as}
use Rattle.db_alloc.proofs.single.single_page.Goals as goal

pub unused_page-requires : goal.unused_page-requires
unused_page-requires g c = record { reader = may_read_later c.args.reader c.in_ok-found.ensures.does.stays c.requires.reader }

pub returns-in_err-found-clause-does : goal.returns-in_err-found-clause-does
returns-in_err-found-clause-does g c = does_exit_as _ _ c.in_err-found.field-0.0 _ refl c.in_err-found.ensures.does c.from_residual.ensures.1

pub returns-then-is_some-clause-does : goal.returns-then-is_some-clause-does
returns-then-is_some-clause-does g c =
    let a = g.P.PlanPages.state c.args.v.now in
    either_found (taken_by a.view.shape Shared (of_mixed a.view.shape c.args.byte)) (taken_by a.view.shape Unused (of_free a.view.shape c.args.byte)) c.in_ok-found.found
    (sym c.is_some.ensures ∙ c.if-is_some.true) c.in_ok-found.ensures.does

pub returns-clause-does : goal.returns-clause-does
returns-clause-does g c =
    let a = g.P.PlanPages.state c.args.v.now in
    let second = λ (s : FileShape). taken_by s Unused (of_free s c.args.byte) in
    either_later (taken_by a.view.shape Shared (of_mixed a.view.shape c.args.byte)) (second a.view.shape) c.in_ok-found.found (sym c.is_some.ensures ∙ c.if-is_some.false) c.in_ok-found.ensures.does
    (does_plan (ap second c.in_ok-found.ensures.does.stays.shape) c.unused_page.ensures.does)

pub returns-clause-ownable : goal.returns-clause-ownable
returns-clause-ownable g c = subst (λ (s : FileShape). IfOk c.unused_page.result (λ found. IfSome found (λ p. IsOwnable s p.0))) c.in_ok-found.ensures.does.stays.shape c.unused_page.ensures.ownable
