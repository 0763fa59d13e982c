use Rattle.ck_error.proofs.GatheringLaws.{adds_below_more}
use Rattle.ck_chain.proofs.slots.note_slots.Goals as goal

pub loop-i-preserved : goal.loop-i-preserved
loop-i-preserved c = adds_below_more _ _ _ _ _ c.loop-i.invariant c.in_ok-note_slot.ensures
