use Rattle.std.proofs.Common.{◌<◌, length}
use Rattle.db_core.specs.Replays.{RunsTurns}
use Rattle.db_core.proofs.replay.run_turns.Given as goal

abbrev pub invariant-turns : goal.invariant-turns
invariant-turns l = (l.at < length l.state.sessions.items) × RunsTurns l.at l.counter l.fn.state l.state
