use Rattle.law_run.proofs.Bounds.{begun_is_bounded}
use Rattle.law_run.proofs.begun_law.Goals as goal

pub returns : goal.returns
returns c = begun_is_bounded
