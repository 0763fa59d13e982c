use Rattle.std.proofs.Common.{ℕ, ◌<◌, arith}
use Rattle.spec_file.specs.declared.data.Resource.TheVariants as resource
use Rattle.spec_log.specs.declared.item.Cell.TheVariants.{Bytes}
use Rattle.spec_words.specs.NetChanges.{FileShape}
use Rattle.db_locks.proofs.CellSteps.{write_untaken}
use Rattle.db_locks.proofs.CatalogSteps.{catalog_may_be_put, catalog_written}
use Rattle.db_locks.proofs.cells.put_catalog.Goals as goal

pub returns-in_err-take : goal.returns-in_err-take
returns-in_err-take g c = λ looked before.
    write_untaken (g.P.PlanPages.state c.args.view.now) (g.P.PlanPages.state c.take.new.self) resource.Catalog (Bytes (record { 0 = 9 }) 0) c.args.from.now.bytes looked _ c.in_err-take.ensures.take c.from_residual.ensures.1

pub put-requires-clause-inside : goal.put-requires-clause-inside
put-requires-clause-inside g c = let many = (g.P.PlanPages.size c.take.new.self).low in omega (arith, many)

pub put-requires-clause-guarded : goal.put-requires-clause-guarded
put-requires-clause-guarded g c = λ told.
    let many = (g.P.PlanPages.size c.args.view.now).low in
    let inside : 9 < (g.P.PlanPages.state c.args.view.now).view.shape.pages = omega (arith, many) in
    catalog_may_be_put (g.P.PlanPages.state c.args.view.now) (g.P.PlanPages.state c.take.new.self) c.args.from.now.bytes inside
    (record { take = c.in_ok-take.ensures.take; taken = c.in_ok-take.ensures.taken; same = c.in_ok-take.ensures.same })

pub returns : goal.returns
returns g c = λ looked before.
    let many = (g.P.PlanPages.size c.args.view.now).low in
    let inside : 9 < (g.P.PlanPages.state c.args.view.now).view.shape.pages = omega (arith, many) in
    catalog_written (g.P.PlanPages.state c.args.view.now) (g.P.PlanPages.state c.take.new.self) (g.P.PlanPages.state c.put.new.self) c.args.from.now.bytes looked c.put.result
    (g.P.PlanPages.images c.take.new.self) inside c.is_whole.ensures.long before
    (record { take = c.in_ok-take.ensures.take; taken = c.in_ok-take.ensures.taken; same = c.in_ok-take.ensures.same })
    c.put.ensures.put
