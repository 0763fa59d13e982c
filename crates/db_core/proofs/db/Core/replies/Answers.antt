use Rattle.std.proofs.Common.{◌-◌, ◌∙◌, ap, arith, length, subst, sym}
use Rattle.std.specs.List.{list_any}
use Rattle.spec_run.specs.Entries.{items_of}
use Rattle.spec_run.specs.Turns.{AreTold, told_to}
use Rattle.spec_run.specs.Answers.{is_terminated}
use Rattle.db_core.proofs.Begun.{few_seen, reported_seen, stands_seen, told_seen}
use Rattle.db_core.proofs.db.Core.replies.Goals as goal

pub returns-clause-told : goal.returns-clause-told
returns-clause-told c =
    let st = c.self.inside.state in
    let db = c.args.self.now in
    let here = stands_seen st db c.args.session c.index.result.now c.self.view_is c.self.invariant c.requires.above c.requires.within c.index.ensures in
    subst (AreTold db.run.geometry (told_to db.run c.args.session (items_of db.entries))) (sym c.deref.ensures.value)
    (told_seen st db (c.args.session - 1) c.args.session c.index.result.now c.self.view_is (omega (arith, c.requires.above)) c.self.invariant here)

pub returns-clause-few : goal.returns-clause-few
returns-clause-few c =
    let st = c.self.inside.state in
    let here = stands_seen st c.args.self.now c.args.session c.index.result.now c.self.view_is c.self.invariant c.requires.above c.requires.within c.index.ensures in
    let few = few_seen st (c.args.session - 1) c.index.result.now c.self.invariant here in
    let same = ap length c.deref.ensures.value in
    omega (arith, few, same)

pub returns-clause-reported : goal.returns-clause-reported
returns-clause-reported c =
    let st = c.self.inside.state in
    let db = c.args.self.now in
    let here = stands_seen st db c.args.session c.index.result.now c.self.view_is c.self.invariant c.requires.above c.requires.within c.index.ensures in
    ap (list_any is_terminated) c.deref.ensures.value
    ∙ reported_seen st db (c.args.session - 1) c.args.session c.index.result.now c.self.view_is (omega (arith, c.requires.above)) c.self.invariant here
