use Rattle.std.proofs.Common.{◌≡◌, ◌+◌, ◌-◌}
use Rattle.net_changes.specs.Bytes.{differing_length}
use Rattle.net_changes.proofs.runs.run_length.Given as goal

abbrev pub invariant-loop-n : goal.invariant-loop-n
invariant-loop-n l = differing_length l.pair.before.bytes l.pair.after.bytes l.most l.at ≡ l.n + differing_length l.pair.before.bytes l.pair.after.bytes (l.most - l.n) (l.at + l.n)
