use Rattle.std.proofs.Common.{◌≡◌, length}
use Rattle.checkdb.proofs.sources_of.Given as goal

abbrev pub invariant-loop-name : goal.invariant-loop-name
invariant-loop-name g l = length l.sources.items ≡ l.name-index
