use Rattle.std.proofs.Common.{◌∙◌}
use Rattle.db_core.specs.ViewLaws.{owns_by}
use Rattle.db_core.proofs.statement_view.StatementView.owns.Goals as goal

pub returns : goal.returns
returns c =
    let view = c.args.self.now in
    c.holds.ensures ∙ owns_by view.state.now view.at c.session.result.now c.args.r view.good c.session.ensures
