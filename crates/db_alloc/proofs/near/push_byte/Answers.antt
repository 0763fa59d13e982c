use Rattle.std.proofs.Common.{sym, ◌∙◌}
use Rattle.db_alloc.proofs.NearPages.{bit_set, bit_clear}
use Rattle.db_alloc.proofs.near.push_byte.Goals as goal
use Rattle.db_alloc.proofs.near.push_byte.Goals.{then-is_set+in_ok-push_extent, else-is_set}

pub loop-n-preserved : goal.loop-n-preserved
loop-n-preserved c = elim c.if-is_set.branch [
  | then-is_set+in_ok-push_extent w ↦ rw w.found-is (bit_set c.args.pages c.args.byte c.args.e c.loop-n.n _ _ _ c.loop-n.invariant w.in_ok-push_extent.ensures)
  | else-is_set w ↦ rw w.found-is (bit_clear c.args.pages c.args.byte c.args.e c.loop-n.n _ _ (sym c.is_set.ensures ∙ w.if-is_set.false) c.loop-n.invariant)
]
