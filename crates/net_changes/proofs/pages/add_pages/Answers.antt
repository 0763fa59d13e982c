use Rattle.std.proofs.Common.{ap, ◌++◌, ◌∙◌}
use Rattle.net_changes.proofs.BitLaws.{nothing}
use Rattle.net_changes.proofs.PageLaws.{pages_none, put_step, put_all, put_is_whole}
use Rattle.net_changes.proofs.pages.add_pages.Goals as goal

pub loop-p-init : goal.loop-p-init
loop-p-init g c = λ told. nothing _ _ (pages_none (g.P.PlanPages.state c.args.v.now) c.args.iams)

pub loop-p-preserved : goal.loop-p-preserved
loop-p-preserved g c = λ told.
    put_step (g.P.PlanPages.state c.args.v.now) c.args.iams c.changed-pages.result.now c.loop-p.p-index (record { 0 = 0 }) _ _ _ c.loop-p-test.true (c.loop-p.invariant told) (c.in_ok-add_put_page.ensures told)

pub returns : goal.returns
returns g c = λ told.
    let s = g.P.PlanPages.state c.args.v.now in
    put_all s c.args.iams c.changed-pages.result.now s.put c.loop-p.p-index _ _ c.loop-p-test.false c.changed-pages.ensures.pages (c.loop-p.invariant told)
    ∙ ap (λ zs. c.args.changes.now.items ++ zs)
    (put_is_whole s c.args.iams (record { rising = c.changed-pages.ensures.rising; inside = c.changed-pages.ensures.inside; others = c.changed-pages.ensures.others told }))
