use Rattle.std.proofs.Common.{reverse, take}
use Rattle.plain_log.proofs.Holding.{FreeAmong}
use Rattle.plain_log.proofs.holders.is_free_for.Given as goal

abbrev pub invariant-loop-item : goal.invariant-loop-item
invariant-loop-item l = FreeAmong (reverse l.items) l.t l.r (reverse (take l.item-index l.items))
