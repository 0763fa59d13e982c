use Rattle.std.proofs.Common.{reverse, take}
use Rattle.spec_log.specs.Rules.{AreFreeFor}
use Rattle.plain_log.proofs.holders.are_free_for.Given as goal

abbrev pub invariant-loop-r : goal.invariant-loop-r
invariant-loop-r l = AreFreeFor (reverse l.items) l.t (take l.r-index l.takes)
