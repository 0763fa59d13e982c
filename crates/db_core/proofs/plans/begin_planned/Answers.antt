use Rattle.std.proofs.Common.{◌<◌, sym, subst}
use Rattle.db_core.proofs.Ready.{went_from}
use Rattle.db_core.proofs.plans.begin_planned.Goals as goal

pub begin_ready-requires-clause-at : goal.begin_ready-requires-clause-at
begin_ready-requires-clause-at c = subst (λ n. c.args.at < n) (sym c.prepare-plan.ensures.few) c.requires.at

pub returns : goal.returns
returns c = record { went = went_from c.args.at c.args.state.now c.prepare-plan.new.state c.begin_ready.new.state c.prepare-plan.ensures.run c.prepare-plan.ensures.log c.prepare-plan.ensures.others c.begin_ready.ensures.went }
