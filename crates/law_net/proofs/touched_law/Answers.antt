use Rattle.law_net.proofs.Touched.{changes_are_under}
use Rattle.law_net.proofs.touched_law.Goals as goal

pub returns : goal.returns
returns c = changes_are_under
