use Rattle.std.proofs.Common.{◌≡◌, ℕ, ◌<◌, false}
use Rattle.net_changes.specs.Bytes.{is_differing}
use Rattle.net_changes.proofs.pages.differ.Given as goal

abbrev pub invariant-loop-at : goal.invariant-loop-at
invariant-loop-at l = (i : ℕ) → i < l.at → is_differing l.pair.before.bytes l.pair.after.bytes i ≡ false
