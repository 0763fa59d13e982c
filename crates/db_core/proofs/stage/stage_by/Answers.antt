use Rattle.std.proofs.Common.{Some, refl, ap, subst}
use Rattle.db_plan.specs.Parts.{IsPartOf}
use Rattle.db_core.proofs.stage.stage_by.Goals as goal

pub returns-in-Begin : goal.returns-in-Begin
returns-in-Begin c = ap Some (subst (IsPartOf c.args.statement.now) c.in-Begin.is c.part_of.ensures)

pub returns-in-Commit : goal.returns-in-Commit
returns-in-Commit c = ap Some (subst (IsPartOf c.args.statement.now) c.in-Commit.is c.part_of.ensures)

pub returns-in-Rollback : goal.returns-in-Rollback
returns-in-Rollback c = ap Some (subst (IsPartOf c.args.statement.now) c.in-Rollback.is c.part_of.ensures)

pub returns-in-Check : goal.returns-in-Check
returns-in-Check c =
    let is = subst (IsPartOf c.args.statement.now) c.in-Check.is c.part_of.ensures in
    (is.0, ap Some is.1)

pub returns-in-Planned : goal.returns-in-Planned
returns-in-Planned c = (c.args.statement.now, refl, subst (IsPartOf c.args.statement.now) c.in-Planned.is c.part_of.ensures)
