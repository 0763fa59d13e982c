use Rattle.std.proofs.Common.{◌≡◌, false, take}
use Rattle.std.specs.List.{list_any}
use Rattle.spec_log.specs.Items.{is_same as same_resource}
use Rattle.plain_log.proofs.holders.contains.Given as goal

abbrev pub invariant-loop-s : goal.invariant-loop-s
invariant-loop-s l = list_any (same_resource l.r) (take l.s-index l.takes) ≡ false
