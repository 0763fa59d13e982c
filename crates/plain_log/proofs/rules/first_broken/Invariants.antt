use Rattle.std.proofs.Common.{reverse, take}
use Rattle.spec_log.specs.Rules.{KeepsRules}
use Rattle.plain_log.proofs.rules.first_broken.Given as goal

abbrev pub invariant-loop-i : goal.invariant-loop-i
invariant-loop-i l = KeepsRules l.g l.pages (reverse (take l.i l.items))
