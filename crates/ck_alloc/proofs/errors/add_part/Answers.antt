use Rattle.std.proofs.lemmas.Result.{on_ok_weaker}
use Rattle.ck_error.proofs.GatheringLaws.{adds_both}
use Rattle.ck_alloc.proofs.errors.add_part.Goals as goal

pub returns : goal.returns
returns c = on_ok_weaker c.add_pages.result
    (λ last sorted. adds_both _ _ _ _ _
    (rw (c.deref.ensures.0, c.markers_at-markers.ensures) at (c.in_ok-add_extent.ensures sorted))
    (rw (c.deref-2.ensures.0, c.markers_at-markers.ensures) at (last sorted))) c.add_pages.ensures
