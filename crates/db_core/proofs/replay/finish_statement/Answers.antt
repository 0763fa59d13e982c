use Rattle.db_core.specs.ViewLaws.{get_within}
use Rattle.db_core.proofs.Good.{get_at}
use Rattle.db_core.proofs.Advances.{same_many}
use Rattle.db_core.proofs.TurnsLeft.{less_left}
use Rattle.db_core.proofs.Replays.{first_goes, next_goes, statement_ends}
use Rattle.db_core.proofs.replay.finish_statement.Goals as goal

pub turns-init : goal.turns-init
turns-init c =
    let st = c.args.state.now in
    let new = c.advance-first.new.state in
    let adv = c.advance-first.ensures.advanced in
    let found = get_within st.sessions.items c.args.at c.requires.at in
    (same_many st new c.args.at c.requires.good adv.good adv.turn.0 c.requires.at, first_goes st new c.args.at c.advance-first.result found.0 c.requires.good c.requires.at found.1 (c.requires.more found.0 found.1) adv c.advance-first.ensures.nearer)

pub turns-smaller : goal.turns-smaller
turns-smaller c =
    let mid = c.turns.state in
    let new = c.advance-next.new.state in
    let adv = c.advance-next.ensures.advanced in
    let x = c.index.result.now in
    let here = get_at mid.sessions.items c.args.at x c.turns.invariant.0 c.index.ensures in
    let found = get_within new.sessions.items c.args.at (same_many mid new c.args.at c.turns.invariant.1.follows.good adv.good adv.turn.0 c.turns.invariant.0) in
    less_left mid new c.args.at x found.0 here found.1 c.turns-test.ensures c.advance-next.ensures.nearer

pub turns-preserved : goal.turns-preserved
turns-preserved c =
    let mid = c.turns.state in
    let new = c.advance-next.new.state in
    let adv = c.advance-next.ensures.advanced in
    let x = c.index.result.now in
    let here = get_at mid.sessions.items c.args.at x c.turns.invariant.0 c.index.ensures in
    (same_many mid new c.args.at c.turns.invariant.1.follows.good adv.good adv.turn.0 c.turns.invariant.0, next_goes c.args.state.now mid new c.args.at c.advance-next.result x here c.turns-test.ensures c.turns.invariant.1 c.turns.invariant.0 adv c.advance-next.ensures.nearer)

pub returns : goal.returns
returns c =
    let mid = c.turns.state in
    let x = c.index.result.now in
    statement_ends c.args.state.now mid c.args.at x (get_at mid.sessions.items c.args.at x c.turns.invariant.0 c.index.ensures) c.turns-test.ensures c.turns.invariant.1
