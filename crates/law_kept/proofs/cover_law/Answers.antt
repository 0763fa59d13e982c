use Rattle.law_kept.proofs.Covered.{covered_is_at_most}
use Rattle.law_kept.proofs.cover_law.Goals as goal

pub returns : goal.returns
returns c = covered_is_at_most
