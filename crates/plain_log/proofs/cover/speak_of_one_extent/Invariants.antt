use Rattle.std.proofs.Common.{◌≡◌, ℕ, ◌+◌, ◌/◌, ◌<◌}
use Rattle.spec_log.specs.Cover.{paged_at}
use Rattle.plain_log.proofs.cover.speak_of_one_extent.Given as goal

abbrev pub invariant-loop-i : goal.invariant-loop-i
invariant-loop-i l = (k : ℕ) → k < l.i → paged_at l.p.0 (l.off + k) / 8 ≡ l.extent
