use Rattle.db_locks.specs.Keys.{key_of}
use Rattle.db_locks.proofs.table.LockTable.reserve.Goals as goal

pub returns-clause-same : goal.returns-clause-same
returns-clause-same c = λ r. c.reserve.ensures.entries.2 (key_of r)
