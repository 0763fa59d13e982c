use Rattle.std.proofs.Common.{◌∙◌}
use Rattle.db_core.proofs.Replays.{many_now, more_end}
use Rattle.db_core.proofs.replay.finish_all.Goals as goal

pub sessions-preserved : goal.sessions-preserved
sessions-preserved c =
    let mid = c.sessions.state in
    let new = c.finish.new.state in
    let first = c.sessions.invariant.1 in
    (many_now _ mid new first.follows.good c.finish.ensures.follows ∙ c.sessions.invariant.0, more_end c.args.state.now mid new c.sessions.at c.requires first c.finish.ensures)
