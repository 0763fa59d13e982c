use Rattle.law_fixed.proofs.Fixed.{turns_fix_history}
use Rattle.law_fixed.proofs.turns_law.Goals as goal

pub returns : goal.returns
returns c = turns_fix_history
