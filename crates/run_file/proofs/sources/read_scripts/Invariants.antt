use Rattle.std.proofs.Common.{map}
use Rattle.run_file.proofs.ScriptsRead.{AreReadTo}
use Rattle.run_file.proofs.sources.read_scripts.Given as goal

abbrev pub invariant-loop-k : goal.invariant-loop-k
invariant-loop-k g l = AreReadTo g.S.Source.left g.S.Source.faults l.fn.sources l.sources (map (λ script. script.items) l.scripts.items) l.k
