use Rattle.std.proofs.lemmas.Result.{on_ok_weaker}
use Rattle.ck_error.proofs.GatheringLaws.{adds_if}
use Rattle.ck_chain.proofs.pages.note_interval.Goals as goal

pub returns : goal.returns
returns c = on_ok_weaker c.push_if.result (adds_if _ _ _ _ _ _ c.differ.ensures c.error.ensures) c.push_if.ensures
