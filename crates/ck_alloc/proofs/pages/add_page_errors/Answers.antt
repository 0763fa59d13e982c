use Rattle.std.proofs.lemmas.Result.{on_ok_weaker}
use Rattle.ck_error.proofs.GatheringLaws.{adds_both}
use Rattle.ck_alloc.proofs.pages.add_page_errors.Goals as goal

pub returns : goal.returns
returns c = on_ok_weaker c.add_byte_errors.result
    (λ last. adds_both _ _ _ _ _ c.in_ok-add_lost_page.ensures (adds_both _ _ _ _ _ c.in_ok-add_two_uses.ensures last)) c.add_byte_errors.ensures
