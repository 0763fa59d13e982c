use Rattle.std.proofs.lemmas.Result.{on_ok_weaker}
use Rattle.ck_error.proofs.GatheringLaws.{adds_both}
use Rattle.ck_chain.proofs.found.note_all.Goals as goal

pub returns : goal.returns
returns c = on_ok_weaker c.note_first_slots.result
    (adds_both _ _ _ _ _ (adds_both _ _ _ _ _ c.in_ok-note_page.ensures c.in_ok-note_marks.ensures)) c.note_first_slots.ensures
