use Rattle.vol_dev.proofs.Moves.{moved}
use Rattle.vol_dev.proofs.memory.MemSourceSource.read.Goals as goal

pub returns-clause-moved : goal.returns-clause-moved
returns-clause-moved c = moved _ _ _ _ _ c.deref.ensures.value c.copy_front-count.ensures.front
