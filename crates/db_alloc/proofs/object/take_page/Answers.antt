use Rattle.std.proofs.Common.{◌++◌, refl, sym, ◌∙◌}
use Rattle.db_alloc.specs.Tables.{numbers}
use Rattle.db_alloc.proofs.ObjectSteps.{taken_good, taken_bad, taken_reached}
use Rattle.db_alloc.proofs.Steps.{does_exit_as}
use Rattle.db_alloc.proofs.object.take_page.Goals as goal

pub returns-in_err-look_page-clause-does : goal.returns-in_err-look_page-clause-does
returns-in_err-look_page-clause-does g c = does_exit_as _ _ c.in_err-look_page.field-0.0 _ refl c.in_err-look_page.ensures.look c.from_residual.ensures.1

pub returns-then-is_stood_on-clause-does : goal.returns-then-is_stood_on-clause-does
returns-then-is_stood_on-clause-does g c =
    taken_bad (numbers c.args.chain.now ++ numbers c.args.path.now) c.args.p c.in_ok-look_page.ensures.look (sym c.is_stood_on.ensures ∙ c.if-is_stood_on.true)

pub returns-clause-does : goal.returns-clause-does
returns-clause-does g c =
    taken_good (numbers c.args.chain.now ++ numbers c.args.path.now) c.args.p.0 c.in_ok-look_page.ensures.look (sym c.is_stood_on.ensures ∙ c.if-is_stood_on.false)

pub returns-clause-reached : goal.returns-clause-reached
returns-clause-reached g c = taken_reached (numbers c.args.chain.now ++ numbers c.args.path.now) c.args.p.0 c.in_ok-look_page.ensures.look
