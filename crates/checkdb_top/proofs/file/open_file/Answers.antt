use Rattle.vol_dev.proofs.FileReads.{reads_file_then}
use Rattle.checkdb_top.proofs.file.open_file.Goals as goal

pub returns-in-Ok-tested-clause-reads : goal.returns-in-Ok-tested-clause-reads
returns-in-Ok-tested-clause-reads g c = reads_file_then _ _ _ _ _ _ c.in-Ok.ensures.reads c.in-Ok-tested.ensures.reads

pub returns-in-Err-tested-clause-stops : goal.returns-in-Err-tested-clause-stops
returns-in-Err-tested-clause-stops g c = rw c.in-Ok.ensures.reads.contents at c.in-Err-tested.ensures.stops

pub returns-in-Err-tested-clause-reads : goal.returns-in-Err-tested-clause-reads
returns-in-Err-tested-clause-reads g c = rw c.into_volume.ensures (reads_file_then _ _ _ _ _ _ c.in-Ok.ensures.reads c.in-Err-tested.ensures.reads)
