use Rattle.law_kept.proofs.PagesDropped.{pages_are_given_back}
use Rattle.law_kept.proofs.freeing_law.Goals as goal

pub returns : goal.returns
returns c = pages_are_given_back
