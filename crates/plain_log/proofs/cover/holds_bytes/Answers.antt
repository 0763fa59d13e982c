use Rattle.std.proofs.Common.{reverse, subst, below_more}
use Rattle.spec_log.specs.Cover.{HoldsGuard}
use Rattle.plain_log.proofs.cover.holds_bytes.Goals as goal

pub loop-i-preserved : goal.loop-i-preserved
loop-i-preserved c =
    below_more _ _ c.loop-i.invariant (subst (HoldsGuard (reverse c.args.items.now) c.args.t) c.byte_guard.ensures (c.holds_guard.ensures.0 c.if-not-holds_guard.false))
