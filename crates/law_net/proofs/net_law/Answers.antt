use Rattle.law_net.proofs.NetLaw.{net_changes_are_good}
use Rattle.law_net.proofs.net_law.Goals as goal

pub returns : goal.returns
returns c = net_changes_are_good
