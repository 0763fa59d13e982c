use Rattle.spec_file.specs.declared.data.Resource.TheVariants as resource
use Rattle.db_alloc.proofs.Shown.{ordinary_shown}
use Rattle.db_alloc.proofs.look.look_page.Goals as goal

pub returns-clause-told : goal.returns-clause-told
returns-clause-told g c = λ told ordinary.
    let state = g.P.PlanPages.state c.args.v.now in
    ordinary_shown state.view.shape state.view.now (g.P.PlanPages.images c.args.v.now told).now c.args.p.0 c.requires ordinary c.look.new.into.bytes c.is_whole.ensures.bytes c.is_whole.ensures.long (c.in_ok-look.ensures.guarded told (resource.Page c.args.p) c.in_ok-look.ensures.free)
