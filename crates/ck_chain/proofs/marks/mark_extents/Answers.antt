use Rattle.std.proofs.Common.{◌∙◌}
use Rattle.ck_chain.proofs.Markings.{front_more}
use Rattle.ck_chain.proofs.marks.mark_extents.Goals as goal

pub loop-n-preserved : goal.loop-n-preserved
loop-n-preserved c = record {
  marked = front_more _ _ _ _ _ _ _ _ c.marks.ensures c.loop-n.invariant.marked c.mark_if.ensures.marked;
  size = c.mark_if.ensures.size ∙ c.loop-n.invariant.size;
}
