use Rattle.spec_file.specs.declared.data.Resource.TheVariants as resource
use Rattle.db_locks.proofs.CellSteps.{does_valued, page_shown}
use Rattle.db_locks.proofs.cells.look_page.Goals as goal

pub returns-clause-does : goal.returns-clause-does
returns-clause-does g c = does_valued c.look.new.into.bytes
    (page_shown (g.P.PlanPages.state c.args.view.now) c.args.p.0 c.look.new.into.bytes (g.P.PlanPages.images c.args.view.now) c.requires.inside c.requires.ordinary c.is_whole.ensures.bytes c.is_whole.ensures.long
    (λ told. c.in_ok-look.ensures.guarded told (resource.Page c.args.p) c.in_ok-look.ensures.free))
    c.in_ok-look.ensures.look
