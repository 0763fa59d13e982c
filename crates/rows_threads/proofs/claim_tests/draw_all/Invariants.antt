use Rattle.std.proofs.Common.{◌≡◌}
use Rattle.ck_claim.specs.Shown.{IsOf}
use Rattle.rows_threads.proofs.claim_tests.draw_all.Given as goal

abbrev pub invariant-draws : goal.invariant-draws
invariant-draws l = IsOf l.claims l.worker.seat × (l.worker.seat.parts ≡ 1)
