use Rattle.ck_error.proofs.GatheringLaws.{adds_below_more}
use Rattle.ck_chain.proofs.pages.note_marks.Goals as goal

pub loop-n-preserved : goal.loop-n-preserved
loop-n-preserved c = adds_below_more _ _ _ _ _ c.loop-n.invariant c.in_ok-note_mark.ensures
