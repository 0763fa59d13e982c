use Rattle.std.proofs.Common.{◌<◌, sym, subst}
use Rattle.db_core.specs.PutLaws.{shown_other}
use Rattle.db_core.specs.StatementViewLaws.{frames_count}
use Rattle.db_core.proofs.statement_view.StatementViewPlanPages.changed.Goals as goal

pub returns-clause-inside : goal.returns-clause-inside
returns-clause-inside c = λ p h.
    let view = c.args.self.now in
    subst (λ n. p.0 < n) (frames_count view.state.now view.good) (view.are_put.inside p h)

pub returns-clause-others : goal.returns-clause-others
returns-clause-others c = λ told p other.
    let view = c.args.self.now in
    sym (shown_other p view.put.items view.pages.items view.state.now.frames other)
