use Rattle.db_core.specs.ViewLaws.{get_within}
use Rattle.db_core.proofs.Good.{get_at}
use Rattle.db_core.proofs.Advances.{same_many}
use Rattle.db_core.proofs.Replays.{less_unanswered, statements_follow, session_ends}
use Rattle.db_core.proofs.replay.finish.Goals as goal

pub statements-smaller : goal.statements-smaller
statements-smaller c =
    let mid = c.statements.state in
    let new = c.finish_statement.new.state in
    let ends = c.finish_statement.ensures in
    let x = c.index.result.now in
    let good = c.statements.invariant.1.1.good in
    let here = get_at mid.sessions.items c.args.at x c.statements.invariant.0 c.index.ensures in
    let found = get_within new.sessions.items c.args.at (same_many mid new c.args.at good ends.follows.good ends.follows.same c.statements.invariant.0) in
    less_unanswered mid new c.args.at x found.0 good here found.1 c.statements-test.ensures ends

pub statements-preserved : goal.statements-preserved
statements-preserved c =
    let mid = c.statements.state in
    let new = c.finish_statement.new.state in
    let ends = c.finish_statement.ensures in
    let follows = c.statements.invariant.1 in
    (same_many mid new c.args.at follows.1.good ends.follows.good ends.follows.same c.statements.invariant.0, statements_follow c.args.state.now mid new c.args.at follows.0 follows.1 ends)

pub returns : goal.returns
returns c =
    let mid = c.statements.state in
    let x = c.index.result.now in
    session_ends c.args.state.now mid c.args.at c.statements.invariant.1.0 x c.statements.invariant.1.1 (get_at mid.sessions.items c.args.at x c.statements.invariant.0 c.index.ensures) c.statements-test.ensures
