use Rattle.std.proofs.Common.{◌≡◌, ◌+◌, All, vec_len}
use Rattle.ck_claim.specs.Shown.{IsOf}
use Rattle.rows_threads.proofs.claim_tests.gather.Given as goal

abbrev pub invariant-workers : goal.invariant-workers
invariant-workers l = IsOf l.claims l.seat × All (λ w. IsOf l.claims w.seat × (w.seat.parts ≡ 1)) l.workers.items × (l.seat.parts + vec_len l.workers ≡ l.initial.seat.parts + vec_len l.initial.workers)

abbrev pub decreases-workers : goal.decreases-workers
decreases-workers l = goal.left-workers l
