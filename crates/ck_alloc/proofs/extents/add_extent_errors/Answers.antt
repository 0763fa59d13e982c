use Rattle.std.proofs.lemmas.Result.{on_ok_weaker}
use Rattle.ck_error.proofs.GatheringLaws.{adds_both}
use Rattle.ck_alloc.proofs.extents.add_extent_errors.Goals as goal

pub returns : goal.returns
returns c =
    on_ok_weaker c.add_two_claims.result
    (λ last. adds_both _ _ _ _ _ c.in_ok-add_both_maps.ensures (adds_both _ _ _ _ _ c.in_ok-add_two_markers.ensures
    (adds_both _ _ _ _ _ c.in_ok-add_lost_extent.ensures last))) c.add_two_claims.ensures
