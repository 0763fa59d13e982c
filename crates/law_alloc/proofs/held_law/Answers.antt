use Rattle.law_alloc.proofs.Unheld.{single_is_unheld}
use Rattle.law_alloc.proofs.held_law.Goals as goal

pub returns : goal.returns
returns c = single_is_unheld
