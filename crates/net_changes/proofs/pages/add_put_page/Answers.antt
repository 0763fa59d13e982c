use Rattle.std.proofs.Common.{sym, ◌∙◌}
use Rattle.std.proofs.lemmas.Result.{on_ok_weaker}
use Rattle.net_changes.proofs.BitLaws.{nothing}
use Rattle.net_changes.proofs.PageLaws.{page_not_due, put_page_is}
use Rattle.net_changes.proofs.pages.add_put_page.Goals as goal

pub returns-then-not-read_due : goal.returns-then-not-read_due
returns-then-not-read_due g c = λ told. nothing _ _ (page_not_due (g.P.PlanPages.state c.args.v.now) c.args.iams c.args.p.0 (sym (c.read_due.ensures.due told) ∙ c.if-not-read_due.true))

pub returns : goal.returns
returns g c =
    on_ok_weaker c.add_page.result (λ added told.
    put_page_is (g.P.PlanPages.state c.args.v.now) c.args.geometry c.args.iams c.args.p.0 _ _ _ _ _ c.requires (c.read_due.ensures.read c.if-not-read_due.false told)
    (c.read_due.ensures.due told) c.if-not-read_due.false (c.has_one_cell-one_cell.ensures told) added)
    c.add_page.ensures
