use Rattle.law_frames.proofs.Parts.{part_is_what_it_reads}
use Rattle.law_frames.proofs.part_law.Goals as goal

pub returns : goal.returns
returns c = part_is_what_it_reads
