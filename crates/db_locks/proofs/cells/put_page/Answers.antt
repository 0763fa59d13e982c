use Rattle.spec_file.specs.declared.data.Resource.TheVariants as resource
use Rattle.spec_log.specs.declared.item.Cell.TheVariants.{Bytes}
use Rattle.db_locks.proofs.CellSteps.{write_untaken, page_may_be_put, page_written}
use Rattle.db_locks.proofs.cells.put_page.Goals as goal

pub returns-in_err-take : goal.returns-in_err-take
returns-in_err-take g c = λ looked before.
    write_untaken (g.P.PlanPages.state c.args.view.now) (g.P.PlanPages.state c.take.new.self) (resource.Page c.args.p) (Bytes c.args.p 0) c.args.from.now.bytes looked _ c.in_err-take.ensures.take c.from_residual.ensures.1

pub put-requires-clause-guarded : goal.put-requires-clause-guarded
put-requires-clause-guarded g c =
    page_may_be_put (g.P.PlanPages.state c.args.view.now) (g.P.PlanPages.state c.take.new.self) c.args.p.0 c.args.from.now.bytes c.requires.inside c.requires.ordinary
    (record { take = c.in_ok-take.ensures.take; taken = c.in_ok-take.ensures.taken; same = c.in_ok-take.ensures.same })

pub returns : goal.returns
returns g c = λ looked before.
    page_written (g.P.PlanPages.state c.args.view.now) (g.P.PlanPages.state c.take.new.self) (g.P.PlanPages.state c.put.new.self) c.args.p.0 c.args.from.now.bytes looked c.put.result
    (g.P.PlanPages.images c.take.new.self) c.requires.inside c.requires.ordinary c.is_whole.ensures.long before
    (record { take = c.in_ok-take.ensures.take; taken = c.in_ok-take.ensures.taken; same = c.in_ok-take.ensures.same })
    c.put.ensures.put
