use Rattle.std.proofs.Common.{◌≡◌, ◌+◌, All, vec_len}
use Rattle.turn_seat.specs.Shown.{IsOf}
use Rattle.turn_bench.specs.Ready.{IsReady}
use Rattle.turn_bench.proofs.by_turn.gather.Given as goal

abbrev pub invariant-loop-worker : goal.invariant-loop-worker
invariant-loop-worker l = IsOf l.turn l.seat × All (IsReady l.turn) l.workers.items × (l.seat.parts + vec_len l.workers ≡ l.initial.seat.parts + vec_len l.initial.workers)

abbrev pub decreases-loop-worker : goal.decreases-loop-worker
decreases-loop-worker l = goal.left-loop-worker l
