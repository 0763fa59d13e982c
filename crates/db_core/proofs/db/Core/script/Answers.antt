use Rattle.std.proofs.Common.{◌-◌, ◌∙◌, arith}
use Rattle.db_core.proofs.Begun.{script_seen, stands_seen}
use Rattle.db_core.proofs.db.Core.script.Goals as goal

pub returns : goal.returns
returns c =
    let st = c.self.inside.state in
    let db = c.args.self.now in
    let here = stands_seen st db c.args.session c.index.result.now c.self.view_is c.self.invariant c.requires.above c.requires.within c.index.ensures in
    c.deref.ensures.value ∙ script_seen st db (c.args.session - 1) c.args.session c.index.result.now c.self.view_is (omega (arith, c.requires.above)) c.self.invariant here
