use Rattle.std.proofs.Common.{map}
use Rattle.checkdb_top.proofs.Shorts.{NoneBelow}
use Rattle.checkdb_top.proofs.ended.any_short.Given as goal

abbrev pub invariant-loop-k : goal.invariant-loop-k
invariant-loop-k l = NoneBelow l.core.run.scripts (map (λ r. r.now) l.replies) l.k
