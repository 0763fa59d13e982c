use Rattle.std.proofs.Common.{◌≡◌}
use Rattle.turn_seat.specs.Shown.{IsOf}
use Rattle.turn_bench.proofs.by_turn.take_turns.Given as goal

abbrev pub invariant-loop : goal.invariant-loop
invariant-loop g l = IsOf l.turn l.seat × (l.seat.parts ≡ l.initial.seat.parts)
