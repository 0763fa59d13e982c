use Rattle.law_frames.proofs.TwoSteps.{steps_are_one}
use Rattle.law_frames.proofs.WholeFiles.{file_stays_clean}
use Rattle.law_frames.proofs.step_laws.Goals as goal

pub returns : goal.returns
returns c = record { one = steps_are_one; file = file_stays_clean }
