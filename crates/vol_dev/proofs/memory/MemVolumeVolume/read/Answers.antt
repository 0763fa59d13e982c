use Rattle.vol_dev.proofs.Moves.{page_read}
use Rattle.vol_dev.proofs.memory.MemVolumeVolume.read.Goals as goal

pub returns-clause-ok : goal.returns-clause-ok
returns-clause-ok c = page_read _ _ _ _ c.deref.ensures.value c.copy_from_slice.ensures.after
