use Rattle.std.proofs.Common.{◌≡◌, ◌+◌, length}
use Rattle.rows_files.proofs.replays.sources_of.Given as goal

abbrev pub invariant-scripts : goal.invariant-scripts
invariant-scripts l = length l.sources.items ≡ l.script-index + 1
