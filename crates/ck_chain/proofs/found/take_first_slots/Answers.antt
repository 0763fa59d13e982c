use Rattle.std.proofs.lemmas.Result.{on_ok_weaker}
use Rattle.std.proofs.Common.{arith}
use Rattle.ck_error.proofs.GatheringLaws.{adds_given}
use Rattle.ck_chain.proofs.found.take_first_slots.Goals as goal

pub returns : goal.returns
returns c = on_ok_weaker c.take_slots.result (adds_given _ _ _ _ (omega (arith, c.if-link-ne0.false))) c.take_slots.ensures
