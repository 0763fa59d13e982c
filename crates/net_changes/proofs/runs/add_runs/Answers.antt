use Rattle.net_changes.proofs.BitLaws.{nothing}
use Rattle.net_changes.proofs.RunLaws.{runs_none, run_step}
use Rattle.net_changes.proofs.runs.add_runs.Goals as goal

pub loop-k-init : goal.loop-k-init
loop-k-init c = nothing _ _ (runs_none _ _ _ _)

pub loop-k-preserved : goal.loop-k-preserved
loop-k-preserved c = run_step c.args.page.0 c.args.pair.now.before.bytes c.args.pair.now.after.bytes c.loop-k.k _ _ _ c.loop-k.invariant c.in_ok-add_run.ensures
