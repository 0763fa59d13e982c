use Rattle.ck_error.proofs.GatheringLaws.{adds_push}
use Rattle.ck_chain.proofs.found.take_use.Goals as goal

pub returns : goal.returns
returns c = rw c.in_ok-push.ensures.items (adds_push _ _)
