use Rattle.std.proofs.Common.{◌<◌, length}
use Rattle.db_core.specs.Replays.{GoesOn}
use Rattle.db_core.specs.Store.{left_at}
use Rattle.db_core.proofs.replay.finish_statement.Given as goal

abbrev pub invariant-turns : goal.invariant-turns
invariant-turns l = (l.at < length l.state.sessions.items) × GoesOn l.at l.fn.state l.state

abbrev pub decreases-turns : goal.decreases-turns
decreases-turns l = left_at l.state l.at
