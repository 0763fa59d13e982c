use Rattle.std.proofs.Common.{ap, ◌∙◌}
use Rattle.spec_file.specs.declared.data.Resource.TheVariants as resource
use Rattle.spec_file.specs.declared.geometry.Geometry.{Geometry}
use Rattle.spec_file.specs.Places.{pfs_place}
use Rattle.db_locks.proofs.CellSteps.{byte_shown}
use Rattle.db_alloc.proofs.Pfs.{byte_at}
use Rattle.db_alloc.proofs.look.reread_byte.Goals as goal

pub returns-clause-told : goal.returns-clause-told
returns-clause-told g c =
    let a = g.P.PlanPages.state c.args.v.now in
    let at_page = c.pfs_of-at.ensures.page ∙ ap (λ (k : Geometry). (pfs_place k c.args.p.0).page) c.requires.geometry in
    let at_place = c.pfs_of-at.ensures.at ∙ ap (λ (k : Geometry). (pfs_place k c.args.p.0).at) c.requires.geometry in
    λ told. byte_at a c.args.p.0 _ _ _ at_page at_place
    (byte_shown a c.args.p.0 _ _ c.look.new.into.bytes (g.P.PlanPages.images c.args.v.now) c.requires.inside (g.P.PlanPages.size c.args.v.now) at_page at_place c.is_whole.ensures.bytes (λ told. c.in_ok-look.ensures.guarded told (resource.Byte c.args.p) c.in_ok-look.ensures.free) told)
