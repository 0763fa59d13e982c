use Rattle.std.proofs.Common.{ap, sym, ◌∙◌}
use Rattle.spec_file.specs.Places.{pfs_page}
use Rattle.db_locks.proofs.Headers.{pfs_page_unread, pfs_page_good, pfs_page_bad}
use Rattle.db_locks.proofs.cells.check_pfs_page.Goals as goal

pub returns-in_err-look-clause-does : goal.returns-in_err-look-clause-does
returns-in_err-look-clause-does g c = pfs_page_unread (g.P.PlanPages.state c.args.view.now) (g.P.PlanPages.state c.look.new.self) c.args.p.0 c.pfs_of-at.result.0.0 c.from_residual.result
    (c.pfs_of-at.ensures.page ∙ ap (λ k. pfs_page k c.args.p.0) c.requires.geometry) c.in_err-look.ensures.look c.from_residual.ensures.1

pub returns-then-not-is_page_of-clause-does : goal.returns-then-not-is_page_of-clause-does
returns-then-not-is_page_of-clause-does g c = pfs_page_bad (g.P.PlanPages.state c.args.view.now) (g.P.PlanPages.state c.look.new.self) c.args.p.0 c.pfs_of-at.result.0.0 c.look.new.into.bytes
    (c.pfs_of-at.ensures.page ∙ ap (λ k. pfs_page k c.args.p.0) c.requires.geometry) c.in_ok-look.ensures.header c.in_ok-look.ensures.look
    (sym c.is_page_of.ensures ∙ c.if-not-is_page_of.true)

pub returns-clause-does : goal.returns-clause-does
returns-clause-does g c = pfs_page_good (g.P.PlanPages.state c.args.view.now) (g.P.PlanPages.state c.look.new.self) c.args.p.0 c.pfs_of-at.result.0.0 c.look.new.into.bytes
    (c.pfs_of-at.ensures.page ∙ ap (λ k. pfs_page k c.args.p.0) c.requires.geometry) c.in_ok-look.ensures.header c.in_ok-look.ensures.look
    (sym c.is_page_of.ensures ∙ c.if-not-is_page_of.false)
