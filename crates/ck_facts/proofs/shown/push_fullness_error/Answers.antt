use Rattle.ck_facts.proofs.Orders.{fullness_adds}
use Rattle.ck_facts.proofs.shown.push_fullness_error.Goals as goal

pub returns : goal.returns
returns c = fullness_adds _ _ c.args.pfs _ _ _ _ c.fullness.ensures c.fullness_error.ensures c.in_ok-push_if.ensures
