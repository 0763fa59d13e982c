use Rattle.std.proofs.Common.{◌≡◌, length, take}
use Rattle.db_core.specs.Replays.{RunsSchedule}
use Rattle.db_core.proofs.replay.run_schedule.Given as goal

abbrev pub invariant-lines : goal.invariant-lines
invariant-lines l = (length l.state.sessions.items ≡ length l.fn.state.sessions.items) × RunsSchedule (take l.session-index l.schedule) l.fn.state l.state
