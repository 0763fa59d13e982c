use Rattle.ck_error.proofs.GatheringLaws.{adds_both, adds_pushed}
use Rattle.ck_alloc.proofs.wrong.add_both.Goals as goal

pub returns : goal.returns
returns c = adds_both _ _ _ _ _ (adds_pushed _ _ _ _ c.in_ok-push.ensures.items c.wrong_page_error.ensures)
    (adds_pushed _ _ _ _ c.in_ok-push-2.ensures.items c.wrong_interval_error.ensures)
