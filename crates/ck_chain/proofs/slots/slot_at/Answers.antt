use Rattle.ck_chain.proofs.SlotList.{slot_is}
use Rattle.ck_chain.proofs.slots.slot_at.Goals as goal

pub returns : goal.returns
returns c = rw c.deref.ensures.0 (slot_is _ _ c.args.i c.slots-slots.ensures c.requires)
