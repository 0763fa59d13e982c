use Rattle.std.proofs.Common.{rules, tests, not, eqb}
use Rattle.std.proofs.lemmas.Iterator.{items_from_collect, YieldsList-from_slice, YieldsList-from_map}
use Rattle.std.proofs.lemmas.Iterator.Consumers.{YieldsList-at, YieldsList-from_filter}
use Rattle.db_core.specs.declared.session.Session.{Session}
use Rattle.db_core.proofs.holders.collected.Goals as goal

pub returns : goal.returns
returns c =
    items_from_collect _ c.collect.ensures.ran
    (YieldsList-from_map _ (λ (x : Session). x.tran)
    (YieldsList-at c.map.ensures.source
    (YieldsList-from_filter _ (λ (x : Session). not (eqb x.tran 0)) (YieldsList-from_slice c.args.sessions.now cc) c.filter.ensures.closure (λ x r q k. search (rules, tests))))
    c.map.ensures.closure (λ x r q k. search (rules, tests)))
