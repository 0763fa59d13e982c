use Rattle.std.proofs.Common.{◌≡◌, ◌+◌, All, vec_len}
use Rattle.turn_seat.specs.Shown.{IsOf}
use Rattle.turn_bench.specs.Ready.{IsReady}
use Rattle.turn_bench.proofs.by_turn.workers.Given as goal

abbrev pub invariant-parts : goal.invariant-parts
invariant-parts l = IsOf l.turn l.seat × All (IsReady l.turn) l.all.items × (vec_len l.all + l.seat.parts ≡ l.initial.seat.parts)

abbrev pub decreases-parts : goal.decreases-parts
decreases-parts l = l.seat.parts
