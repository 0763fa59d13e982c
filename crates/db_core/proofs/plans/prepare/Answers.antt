use Rattle.std.proofs.Common.{subst}
use Rattle.db_core.specs.Plans.{IsPlanned}
use Rattle.db_core.proofs.Ready.{ready_refused}
use Rattle.db_core.proofs.plans.prepare.Goals as goal

pub with_room-requires-clause-planned : goal.with_room-requires-clause-planned
with_room-requires-clause-planned c x at = subst (IsPlanned c.args.state.now c.args.at x) c.in-Ok.is (c.requires.planned x at)

pub returns-in-Err : goal.returns-in-Err
returns-in-Err c = ready_refused c.args.state.now c.args.at c.in-Err.refusal c.requires.good (λ x at. subst (IsPlanned c.args.state.now c.args.at x) c.in-Err.is (c.requires.planned x at))
