use Rattle.std.proofs.Common.{◌≡◌, ◌+◌, All, vec_len}
use Rattle.std.specs.Prelude.{IsSomeAnd}
use Rattle.turn_seat.specs.Shown.{IsOf}
use Rattle.rows_threads.proofs.turn_tests.workers.Given as goal

abbrev pub invariant-parts : goal.invariant-parts
invariant-parts l = IsOf l.turn l.seat × All (λ w. IsSomeAnd w.seat (λ s. IsOf l.turn s × (s.parts ≡ 1))) l.all.items × (vec_len l.all + l.seat.parts ≡ l.initial.seat.parts)

abbrev pub decreases-parts : goal.decreases-parts
decreases-parts l = l.seat.parts
