use Rattle.std.proofs.Common.{ℕ, ◌+◌, ◌<◌, reverse}
use Rattle.spec_log.specs.Cover.{HoldsGuard, byte_guard}
use Rattle.plain_log.proofs.cover.holds_bytes.Given as goal

abbrev pub invariant-loop-i : goal.invariant-loop-i
invariant-loop-i l = (k : ℕ) → k < l.i → HoldsGuard (reverse l.items) l.t (byte_guard l.g l.pages l.p.0 (l.off + k))
