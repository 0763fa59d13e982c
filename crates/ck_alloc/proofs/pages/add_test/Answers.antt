use Rattle.std.proofs.lemmas.Result.{on_ok_weaker}
use Rattle.ck_error.proofs.GatheringLaws.{adds_both}
use Rattle.ck_alloc.proofs.Growing.{adds_if}
use Rattle.ck_alloc.proofs.pages.add_test.Goals as goal

pub returns : goal.returns
returns c = on_ok_weaker c.push_if-2.result
    (λ last. adds_both _ _ _ _ _
    (adds_if _ _ _ _ _ _ c.has_wrong_flags.ensures c.wrong_byte_error-flags.ensures c.in_ok-push_if.ensures)
    (adds_if _ _ _ _ _ _ c.has_wrong_fullness.ensures c.wrong_byte_error-fullness.ensures last)) c.push_if-2.ensures
