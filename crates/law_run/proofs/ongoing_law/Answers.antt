use Rattle.law_run.proofs.Ongoing.{unfinished_is_open}
use Rattle.law_run.proofs.ongoing_law.Goals as goal

pub returns : goal.returns
returns c = unfinished_is_open
