use Rattle.std.proofs.Common.{map}
use Rattle.db_core.specs.Runs.{AreNew}
use Rattle.db_core.proofs.begin.sessions_of.Given as goal

abbrev pub invariant-loop-script : goal.invariant-loop-script
invariant-loop-script l = AreNew (map (λ s. s.items) l.yielded) l.sessions.items
