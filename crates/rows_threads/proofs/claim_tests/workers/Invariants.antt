use Rattle.std.proofs.Common.{◌≡◌, ◌+◌, All, vec_len}
use Rattle.ck_claim.specs.Shown.{IsOf}
use Rattle.rows_threads.proofs.claim_tests.workers.Given as goal

abbrev pub invariant-parts : goal.invariant-parts
invariant-parts l = IsOf l.claims l.seat × All (λ w. IsOf l.claims w.seat × (w.seat.parts ≡ 1)) l.all.items × (vec_len l.all + l.seat.parts ≡ l.initial.seat.parts)

abbrev pub decreases-parts : goal.decreases-parts
decreases-parts l = l.seat.parts
