use Rattle.db_locks.proofs.PlanLaws.{does_after, does_exit, does_more, does_give}
use Rattle.db_locks.proofs.WordLaws.{does_unless_held}
use Rattle.db_locks.proofs.cells.check_free.Goals as goal

pub returns-in_err-look-clause-does : goal.returns-in_err-look-clause-does
returns-in_err-look-clause-does g c = λ looked before.
    does_unless_held c.args.r c.args.p.0 before (does_exit _ (does_more looked c.in_err-look.ensures.look) c.from_residual.ensures.1)

pub returns-clause-does : goal.returns-clause-does
returns-clause-does g c = λ looked before.
    does_unless_held c.args.r c.args.p.0 before (does_after _ (does_more looked c.in_ok-look.ensures.look) (does_give _ _ tt))
