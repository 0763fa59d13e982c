use Rattle.std.proofs.lemmas.Result.{on_ok_weaker}
use Rattle.ck_error.proofs.GatheringLaws.{adds_both}
use Rattle.ck_chain.proofs.found.take_uses.Goals as goal

pub returns : goal.returns
returns c = on_ok_weaker c.take_first_slots.result (adds_both _ _ _ _ _ c.in_ok-take_use.ensures) c.take_first_slots.ensures
