use Rattle.std.proofs.Common.{◌≡◌}
use Rattle.turn_seat.specs.Shown.{IsOf}
use Rattle.rows_threads.proofs.turn_tests.visits.Given as goal

abbrev pub invariant-turns : goal.invariant-turns
invariant-turns g l = IsOf l.turn l.seat × (l.seat.parts ≡ 1)
