use Rattle.law_frames.proofs.OtherObjects.{others_are_kept, others_stay_clean}
use Rattle.law_frames.proofs.frame_laws.Goals as goal

pub returns : goal.returns
returns c = record { kept = others_are_kept; clean = others_stay_clean }
