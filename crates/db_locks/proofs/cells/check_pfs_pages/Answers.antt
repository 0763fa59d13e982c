use Rattle.std.proofs.Common.{◌≤◌, ◌+◌, ℕ, List, [], length, drop, get_or, Ok, Err, ◌∙◌, subst, arith}
use Rattle.spec_words.specs.Views.{View}
use Rattle.spec_words.specs.Tables.{bytes_read}
use Rattle.db_locks.specs.Does.{Does, stop_of}
use Rattle.db_locks.specs.Cells.{pfs_page_read}
use Rattle.db_locks.proofs.LoopLaws.{Leads, numbers, numbers_step, numbers_end, each_step, each_exit, each_end}
use Rattle.db_locks.proofs.cells.check_pfs_pages.Goals as goal

pub returns-in_err-check_pfs_page-clause-does : goal.returns-in_err-check_pfs_page-clause-does
returns-in_err-check_pfs_page-clause-does g c =
    let a = g.P.PlanPages.state c.args.view.now in
    let b = g.P.PlanPages.state c.loop-p.view in
    let pages = c.args.pages.now in
    let i = c.loop-p.p-index in
    each_exit (pfs_page_read a.view.shape) (get_or pages i (record { 0 = 0 })).0 (numbers (drop (i + 1) pages))
    (subst (λ (ps : List ℕ). Leads stop_of [] a b (bytes_read a.view.shape (numbers pages)) (bytes_read a.view.shape ps)) (numbers_step pages i (record { 0 = 0 }) c.loop-p-test.true) c.loop-p.invariant.leads)
    (subst (λ (v : View). Does b (g.P.PlanPages.state c.check_pfs_page.new.view) (pfs_page_read v.shape (get_or pages i (record { 0 = 0 })).0) (Err c.in_err-check_pfs_page.field-0.0)) c.loop-p.invariant.view c.in_err-check_pfs_page.ensures.does)
    c.from_residual.ensures.1

pub loop-p-preserved : goal.loop-p-preserved
loop-p-preserved g c =
    let a = g.P.PlanPages.state c.args.view.now in
    let b = g.P.PlanPages.state c.loop-p.view in
    let pages = c.args.pages.now in
    let i = c.loop-p.p-index in
    record {
      leads = each_step (pfs_page_read a.view.shape) (get_or pages i (record { 0 = 0 })).0 (numbers (drop (i + 1) pages))
          (subst (λ (ps : List ℕ). Leads stop_of [] a b (bytes_read a.view.shape (numbers pages)) (bytes_read a.view.shape ps)) (numbers_step pages i (record { 0 = 0 }) c.loop-p-test.true) c.loop-p.invariant.leads)
          (subst (λ (v : View). Does b (g.P.PlanPages.state c.check_pfs_page.new.view) (pfs_page_read v.shape (get_or pages i (record { 0 = 0 })).0) (Ok tt)) c.loop-p.invariant.view c.in_ok-check_pfs_page.ensures.does);
      view = c.in_ok-check_pfs_page.ensures.view ∙ c.loop-p.invariant.view;
    }

pub returns-clause-does : goal.returns-clause-does
returns-clause-does g c =
    let a = g.P.PlanPages.state c.args.view.now in
    let b = g.P.PlanPages.state c.loop-p.view in
    let pages = c.args.pages.now in
    let past : length pages ≤ c.loop-p.p-index = omega (arith, c.loop-p-test.false) in
    each_end (pfs_page_read a.view.shape)
    (subst (λ (ps : List ℕ). Leads stop_of [] a b (bytes_read a.view.shape (numbers pages)) (bytes_read a.view.shape ps)) (numbers_end pages c.loop-p.p-index past) c.loop-p.invariant.leads)
