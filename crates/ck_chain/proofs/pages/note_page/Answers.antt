use Rattle.std.proofs.lemmas.Result.{on_ok_weaker}
use Rattle.ck_error.proofs.GatheringLaws.{adds_both}
use Rattle.ck_chain.proofs.pages.note_page.Goals as goal

pub returns : goal.returns
returns c = on_ok_weaker c.note_interval.result
    (λ last. adds_both _ _ _ _ _ c.in_ok-note_prev.ensures (adds_both _ _ _ _ _ c.in_ok-note_sequence.ensures last)) c.note_interval.ensures
