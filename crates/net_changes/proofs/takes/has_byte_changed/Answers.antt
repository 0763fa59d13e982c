use Rattle.std.proofs.Common.{◌≤◌, sym, subst}
use Rattle.net_changes.proofs.Views.{past_is_shown}
use Rattle.net_changes.proofs.takes.has_byte_changed.Goals as goal

pub returns-then-p-pages : goal.returns-then-p-pages
returns-then-p-pages g c = λ told.
    sym (past_is_shown (g.P.PlanPages.state c.args.v.now) (g.P.PlanPages.images c.args.v.now told) c.args.p.0 (subst (λ n. n ≤ c.args.p.0) c.requires.pages c.if-p-pages.true))
