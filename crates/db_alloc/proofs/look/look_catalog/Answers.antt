use Rattle.spec_file.specs.declared.data.Resource.TheVariants as resource
use Rattle.db_alloc.proofs.Shown.{catalog_shown}
use Rattle.db_alloc.proofs.look.look_catalog.Goals as goal

pub returns-clause-told : goal.returns-clause-told
returns-clause-told g c = λ told.
    let state = g.P.PlanPages.state c.args.v.now in
    catalog_shown state.view.shape state.view.now (g.P.PlanPages.images c.args.v.now told).now c.look.new.into.bytes c.is_whole.ensures.bytes c.is_whole.ensures.long (c.in_ok-look.ensures.guarded told resource.Catalog c.in_ok-look.ensures.free)
