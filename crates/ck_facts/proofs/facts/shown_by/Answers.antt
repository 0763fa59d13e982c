use Rattle.ck_facts.proofs.PageErrors.{errors_shown}
use Rattle.ck_facts.proofs.facts.shown_by.Goals as goal

pub returns-clause-errors : goal.returns-clause-errors
returns-clause-errors c = λ row id kind. errors_shown row c.args.page.now c.args.pfs _ (record { id = id; kind = kind }) c.in_ok-errors_of.ensures
