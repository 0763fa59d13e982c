use Rattle.ck_error.proofs.GatheringLaws.{lists_in_order}
use Rattle.ck_facts.proofs.MapLaws.{uses_by_page}
use Rattle.ck_alloc.proofs.MapLaws.{gathers_of}
use Rattle.ck_alloc.proofs.errors.alloc_errors.Goals as goal

pub returns : goal.returns
returns c = λ image of. lists_in_order _ _ _ c.in_order.ensures.sorted c.in_order.ensures.same
    (gathers_of image c.args.map.now of c.requires _ (c.in_ok-gathered.ensures (uses_by_page image c.args.map.now of c.requires)))
