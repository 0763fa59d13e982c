use Rattle.std.proofs.Common.{sym}
use Rattle.net_changes.proofs.PageLaws.{stays_out}
use Rattle.net_changes.proofs.pages.read_due.Goals as goal

pub returns-then-not-read_put-clause-due : goal.returns-then-not-read_put-clause-due
returns-then-not-read_put-clause-due g c = λ told.
    sym (stays_out (g.P.PlanPages.state c.args.v.now) c.args.iams c.args.p.0 (c.read_put.ensures.same c.if-not-read_put.true told))
