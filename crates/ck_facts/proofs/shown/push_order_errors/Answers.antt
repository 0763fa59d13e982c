use Rattle.std.proofs.Common.{◌∙◌, sym, IsTrue}
use Rattle.spec_file.specs.Kinds.{is_clustered}
use Rattle.ck_facts.specs.Tested.{Falls}
use Rattle.ck_facts.proofs.Orders.{given_on_ok}
use Rattle.ck_facts.proofs.shown.push_order_errors.Goals as goal

pub returns : goal.returns
returns c = given_on_ok c.push_falls.result _ _ (IsTrue (is_clustered c.args.page.now.kind)) (Falls c.args.page.now)
    (sym c.is_clustered.ensures ∙ c.if-not-is_clustered.false) c.push_falls.ensures
