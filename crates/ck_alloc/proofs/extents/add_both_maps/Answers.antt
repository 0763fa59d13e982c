use Rattle.std.proofs.lemmas.Result.{on_ok_weaker}
use Rattle.ck_alloc.proofs.Growing.{adds_if}
use Rattle.ck_alloc.proofs.extents.add_both_maps.Goals as goal

pub returns : goal.returns
returns c = on_ok_weaker c.push_if.result (adds_if _ _ _ _ _ _ c.is_in_both.ensures c.both_maps_error.ensures) c.push_if.ensures
