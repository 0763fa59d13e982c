use Rattle.std.proofs.Common.{refl}
use Rattle.checkdb_top.specs.Answers.{Stopped}
use Rattle.vol_dev.proofs.FileReads.{reads_file_then}
use Rattle.checkdb_top.proofs.show.show.Goals as goal

pub returns-in-Err-clause-answers : goal.returns-in-Err-clause-answers
returns-in-Err-clause-answers g c = Stopped c.in-Err.ensures.stops refl

pub returns-clause-answers : goal.returns-clause-answers
returns-clause-answers g c = rw c.in-Ok.ensures.reads.contents at c.show_page-status.ensures.answers

pub returns-clause-reads : goal.returns-clause-reads
returns-clause-reads g c = rw c.into_volume.ensures (reads_file_then _ _ _ _ _ _ c.in-Ok.ensures.reads c.show_page-status.ensures.reads)
