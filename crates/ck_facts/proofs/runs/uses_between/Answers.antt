use Rattle.std.proofs.Common.{sym, subst}
use Rattle.std.proofs.lemmas.List.Kept.{IsNonDecreasingBy-filter}
use Rattle.ck_facts.specs.PageUses.{IsByPage}
use Rattle.ck_facts.proofs.runs.uses_between.Goals as goal

pub returns : goal.returns
returns c sorted =
    let is = c.from_page.ensures sorted in
    rw is at (c.below_page.ensures (subst IsByPage (sym is) (record { rises = IsNonDecreasingBy-filter (λ u. u.page) _ _ sorted.rises })))
