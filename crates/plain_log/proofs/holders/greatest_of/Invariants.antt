use Rattle.std.proofs.Common.{◌≡◌, reverse, take}
use Rattle.spec_log.specs.Log.{greatest_of}
use Rattle.plain_log.proofs.holders.greatest_of.Given as goal

abbrev pub invariant-loop-item : goal.invariant-loop-item
invariant-loop-item l = l.greatest ≡ greatest_of (reverse (take l.item-index l.items))
