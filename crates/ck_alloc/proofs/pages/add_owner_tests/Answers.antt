use Rattle.std.proofs.lemmas.Result.{on_ok_weaker}
use Rattle.ck_error.proofs.GatheringLaws.{adds_both}
use Rattle.ck_alloc.proofs.pages.add_owner_tests.Goals as goal

pub returns : goal.returns
returns c = on_ok_weaker c.add_test_alone.result
    (λ last. adds_both _ _ _ _ _ c.in_ok-add_use_tests.ensures (adds_both _ _ _ _ _ c.in_ok-add_mark_tests.ensures last)) c.add_test_alone.ensures
