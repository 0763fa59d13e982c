use Rattle.std.proofs.Common.{◌≡◌, false, reverse, take}
use Rattle.std.specs.List.{list_any}
use Rattle.spec_log.specs.Log.{commits}
use Rattle.plain_log.proofs.scan.has_committed.Given as goal

abbrev pub invariant-loop-item : goal.invariant-loop-item
invariant-loop-item l = list_any (commits l.t) (reverse (take l.item-index l.items)) ≡ false
