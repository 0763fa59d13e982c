use Rattle.db_core.proofs.Advances.{same_many}
use Rattle.db_core.proofs.Replays.{follows_turn, rest_turns}
use Rattle.db_core.proofs.replay.run_turns.Goals as goal

pub returns-then-is_finished : goal.returns-then-is_finished
returns-then-is_finished c =
    rest_turns c.args.state.now c.turns.state c.advance-out.new.state c.args.at c.turns.counter c.args.count c.advance-out.result c.turns.invariant.1 c.turns.invariant.0 c.advance-out.ensures.advanced c.advance-out.ensures.nearer c.if-is_finished.ensures c.turns-test.true

pub turns-preserved : goal.turns-preserved
turns-preserved c =
    let adv = c.advance-out.ensures.advanced in (
      same_many c.turns.state c.advance-out.new.state c.args.at c.turns.invariant.1.good adv.good adv.turn.0 c.turns.invariant.0,
      follows_turn c.turns.counter c.args.at c.advance-out.result c.args.state.now c.turns.state c.advance-out.new.state c.turns.invariant.1 c.turns.invariant.0 adv c.advance-out.ensures.nearer,
    )
