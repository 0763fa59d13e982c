use Rattle.std.proofs.lemmas.Result.{on_ok_weaker}
use Rattle.ck_alloc.proofs.Growing.{adds_if}
use Rattle.ck_alloc.proofs.extents.add_lost_extent.Goals as goal

pub returns : goal.returns
returns c = on_ok_weaker c.push_if.result (adds_if _ _ _ _ _ _ c.has_no_claim.ensures c.lost_extent_error.ensures) c.push_if.ensures
