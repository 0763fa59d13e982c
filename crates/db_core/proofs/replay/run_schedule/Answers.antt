use Rattle.std.proofs.Common.{get_or, ◌∙◌}
use Rattle.db_core.proofs.Replays.{many_now, line_follows, get_pair}
use Rattle.db_core.proofs.replay.run_schedule.Goals as goal

pub lines-preserved : goal.lines-preserved
lines-preserved c =
    let st = c.args.state.now in
    let mid = c.lines.state in
    let new = c.run_turns.new.state in
    let schedule = c.args.schedule.now in
    let k = c.lines.session-index in
    let p = get_or schedule k (0, 0) in
    let here = get_pair schedule k (0, 0) c.lines-test.true in
    (many_now _ mid new c.lines.invariant.1.good c.run_turns.ensures ∙ c.lines.invariant.0, line_follows st mid new k schedule p here (c.requires.inside k p here).0 c.lines.invariant.1 c.run_turns.ensures)
