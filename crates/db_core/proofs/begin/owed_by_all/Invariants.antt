use Rattle.std.proofs.Common.{◌≡◌, take, sum_by}
use Rattle.db_core.specs.Rooms as rooms
use Rattle.db_core.proofs.begin.owed_by_all.Given as goal

abbrev pub invariant-loop-session : goal.invariant-loop-session
invariant-loop-session l = l.owed ≡ sum_by rooms.owed_by (take l.session-index l.sessions)
