use Rattle.std.proofs.Common.{◌≡◌, false, reverse, take}
use Rattle.std.specs.List.{list_any}
use Rattle.spec_log.specs.Log.{takes_it}
use Rattle.plain_log.proofs.holders.has_taken.Given as goal

abbrev pub invariant-loop-item : goal.invariant-loop-item
invariant-loop-item l = list_any (takes_it l.t l.r) (reverse (take l.item-index l.items)) ≡ false
