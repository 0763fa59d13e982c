use Rattle.net_changes.proofs.PageLaws.{one_cell_iam, one_cell_other}
use Rattle.net_changes.proofs.pages.has_one_cell.Goals as goal

pub returns-then-iams : goal.returns-then-iams
returns-then-iams g c = λ told kind. one_cell_iam (g.P.PlanPages.state c.args.v.now) c.args.geometry c.args.iams c.args.p.0 c.if-iams.true kind

pub returns : goal.returns
returns g c = λ told kind.
    one_cell_other (g.P.PlanPages.state c.args.v.now) c.args.geometry c.args.iams c.args.p.0 _ c.if-iams.false kind (c.becomes_allocated.ensures told)
