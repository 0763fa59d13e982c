use Rattle.std.proofs.Common.{◌≡◌, length}
use Rattle.db_core.specs.Replays.{EndsFirst}
use Rattle.db_core.proofs.replay.finish_all.Given as goal

abbrev pub invariant-sessions : goal.invariant-sessions
invariant-sessions l = (length l.state.sessions.items ≡ length l.fn.state.sessions.items) × EndsFirst l.at l.fn.state l.state
