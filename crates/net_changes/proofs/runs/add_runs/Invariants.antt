use Rattle.std.proofs.Common.{◌≡◌, ◌++◌}
use Rattle.net_changes.specs.Bytes.{runs_between}
use Rattle.net_changes.proofs.runs.add_runs.Given as goal

abbrev pub invariant-loop-k : goal.invariant-loop-k
invariant-loop-k l = l.changes.items ≡ l.fn.changes.items ++ runs_between l.page.0 l.pair.before.bytes l.pair.after.bytes 0 l.k
