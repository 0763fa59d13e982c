use Rattle.ck_alloc.proofs.ValuesRead.{pushed_more}
use Rattle.ck_alloc.proofs.map_bits.push_bits.Goals as goal

pub loop-i-preserved : goal.loop-i-preserved
loop-i-preserved c = pushed_more _ c.loop-i.i _ _ _ _ c.loop-i.invariant c.in_ok-push.ensures.items c.bit.ensures
