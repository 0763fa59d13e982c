use Rattle.db_alloc.proofs.NearPages.{near_of}
use Rattle.db_alloc.proofs.near.near.Goals as goal

pub returns : goal.returns
returns c = near_of _ _ _ _ _ _ _ _ c.new-found.ensures.items c.in_ok-push_slots.ensures c.in_ok-push_chain.ensures c.requires c.in_order.ensures.rise c.in_order.ensures.same
