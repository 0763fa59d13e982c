use Rattle.std.proofs.Common.{◌≡◌, ◌+◌, All, vec_len}
use Rattle.std.specs.Prelude.{IsSomeAnd}
use Rattle.turn_seat.specs.Shown.{IsOf}
use Rattle.rows_threads.proofs.turn_tests.gather.Given as goal

abbrev pub invariant-workers : goal.invariant-workers
invariant-workers l = IsOf l.turn l.seat × All (λ w. IsSomeAnd w.seat (λ s. IsOf l.turn s × (s.parts ≡ 1))) l.workers.items × (l.seat.parts + vec_len l.workers ≡ l.initial.seat.parts + vec_len l.initial.workers)

abbrev pub decreases-workers : goal.decreases-workers
decreases-workers l = goal.left-workers l
