use Rattle.std.proofs.Common.{◌<◌, arith}
use Rattle.spec_file.specs.declared.data.Resource.TheVariants as resource
use Rattle.db_locks.proofs.CellSteps.{does_valued, catalog_shown}
use Rattle.db_locks.proofs.cells.look_catalog.Goals as goal

pub look-requires : goal.look-requires
look-requires g c = let many = (g.P.PlanPages.size c.args.view.now).low in omega (arith, many)

pub returns-clause-does : goal.returns-clause-does
returns-clause-does g c =
    let many = (g.P.PlanPages.size c.args.view.now).low in
    let inside : 9 < (g.P.PlanPages.state c.args.view.now).view.shape.pages = omega (arith, many) in
    does_valued c.look.new.into.bytes
    (catalog_shown (g.P.PlanPages.state c.args.view.now) c.look.new.into.bytes (g.P.PlanPages.images c.args.view.now) inside c.is_whole.ensures.bytes c.is_whole.ensures.long (λ told. c.in_ok-look.ensures.guarded told resource.Catalog c.in_ok-look.ensures.free))
    c.in_ok-look.ensures.look
