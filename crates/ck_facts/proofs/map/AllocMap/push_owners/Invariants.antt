use Rattle.std.proofs.Common.{◌≡◌, ◌++◌}
use Rattle.ck_facts.specs.OwnedBy.{owners_of}
use Rattle.ck_facts.proofs.map.AllocMap.push_owners.Given as goal

abbrev pub invariant-loop-i : goal.invariant-loop-i
invariant-loop-i l = l.owners.items ≡ l.initial.owners.items ++ owners_of l.self l.uses l.p.0 l.i
