use Rattle.std.proofs.Common.{sym, ap, ◌∙◌}
use Rattle.db_alloc.specs.Searches.{find_of}
use Rattle.db_alloc.proofs.search.page_in.Goals as goal

pub returns-in-Shared-clause-page : goal.returns-in-Shared-clause-page
returns-in-Shared-clause-page g c = λ told.
    let a = g.P.PlanPages.state c.args.v.now in
    c.spare_page.ensures.page told ∙ ap (λ w. find_of w a.view.shape a.view c.args.e.0) (sym c.in-Shared.is)
