use Rattle.std.proofs.Common.{◌+◌, ◌<◌, ℕ, length}
use Rattle.std.specs.Prelude.{slice_get, replicate}
use Rattle.db_core.specs.Replays.{Follows, unanswered}
use Rattle.db_core.proofs.replay.finish.Given as goal

abbrev pub invariant-statements : goal.invariant-statements
invariant-statements l = (l.at < length l.state.sessions.items) × ((count : ℕ) × Follows (replicate count (l.at + 1)) l.fn.state l.state)

abbrev pub decreases-statements : goal.decreases-statements
decreases-statements l = unanswered (slice_get l.state.sessions.items l.at)
