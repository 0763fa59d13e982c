use Rattle.std.proofs.Common.{refl, sym, ◌∙◌}
use Rattle.law_extents.proofs.GoodKinds.{first_ordinary}
use Rattle.db_alloc.proofs.search.first_page.Goals as goal

pub returns-clause-ordinary : goal.returns-clause-ordinary
returns-clause-ordinary c = (refl, first_ordinary c.args.geometry c.args.e.0 (sym c.is_system.ensures ∙ c.if-is_system.false))
