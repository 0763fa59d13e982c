use Rattle.std.proofs.Common.{◌≡◌}
use Rattle.rows_locks.proofs.net_tests.take_steps.Given as goal

abbrev pub invariant-loop-step : goal.invariant-loop-step
invariant-loop-step g l = (g.P.PlanPages.state l.v).view.shape ≡ (g.P.PlanPages.state l.fn.v).view.shape
