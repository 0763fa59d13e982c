use Rattle.std.proofs.Common.{rules, tests}
use Rattle.std.proofs.lemmas.Iterator.{YieldsList-from_slice}
use Rattle.std.proofs.lemmas.Iterator.Search.{any_from_yields_List}
use Rattle.ck_facts.specs.OwnedBy.{is_single}
use Rattle.ck_facts.proofs.owners.is_held.Goals as goal

pub returns : goal.returns
returns c = any_from_yields_List (is_single c.args.id) _ _ _ c.any.ensures.ran (YieldsList-from_slice c.args.uses.now cc) (λ x b q k. search (rules, tests))
