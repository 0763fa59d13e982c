use Rattle.std.proofs.Common.{◌-◌, arith}
use Rattle.db_core.proofs.Begun.{turn_seen, says_seen, bound_seen, count_seen}
use Rattle.db_core.proofs.db.Core.turn.Goals as goal

pub returns-clause-turn : goal.returns-clause-turn
returns-clause-turn c =
    turn_seen c.self.inside.state c.advance.new.state c.args.self.now (c.args.session - 1) c.args.session c.self.view_is (omega (arith, c.requires.above)) c.advance.ensures.advanced.turn

pub returns-clause-bound : goal.returns-clause-bound
returns-clause-bound c =
    let inside = c.requires.within in
    let above = c.requires.above in
    let few = count_seen c.self.inside.state c.args.self.now c.self.view_is c.self.invariant in
    bound_seen c.self.inside.state c.advance.new.state c.args.self.now (c.args.session - 1) c.args.session c.advance.result c.self.view_is (omega (arith, above)) c.self.invariant
    (omega (arith, inside, above, few)) c.advance.ensures.advanced c.advance.ensures.nearer

pub returns-clause-says : goal.returns-clause-says
returns-clause-says c =
    says_seen c.self.inside.state c.advance.new.state c.args.self.now (c.args.session - 1) c.args.session c.advance.result c.self.view_is (omega (arith, c.requires.above))
    c.advance.ensures.advanced.says
