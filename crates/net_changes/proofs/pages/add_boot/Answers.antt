use Rattle.std.proofs.Common.{ap, ◌++◌, ◌∙◌}
use Rattle.std.proofs.lemmas.Result.{on_ok_weaker}
use Rattle.law_net.proofs.Covered.{part_none}
use Rattle.net_changes.proofs.BitLaws.{nothing}
use Rattle.net_changes.proofs.PageLaws.{boot_shown}
use Rattle.net_changes.proofs.pages.add_boot.Goals as goal

pub returns-then-read_put : goal.returns-then-read_put
returns-then-read_put g c =
    on_ok_weaker c.add_part_change.result (λ added told. added
    ∙ ap (λ zs. c.args.changes.now.items ++ zs) (boot_shown (g.P.PlanPages.state c.args.v.now) 9 _ (c.read_put.ensures.read c.if-read_put.true told)))
    c.add_part_change.ensures

pub returns : goal.returns
returns g c = λ told. nothing _ _ (part_none _ _ 9 0 8192 (c.read_put.ensures.same c.if-read_put.false told))
