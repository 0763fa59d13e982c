use Rattle.std.proofs.Common.{refl, sym, ap, ◌∙◌}
use Rattle.std.specs.Prelude.{◌||◌}
use Rattle.std.proofs.lemmas.Bool.{or_left}
use Rattle.spec_file.specs.declared.data.Resource.TheVariants as resource
use Rattle.spec_file.specs.declared.geometry.Geometry.{Geometry}
use Rattle.spec_file.specs.Places.{pfs_place}
use Rattle.spec_alloc.specs.Search.{is_held}
use Rattle.db_alloc.proofs.MapReads.{counted}
use Rattle.db_alloc.proofs.maps.counts_as_allocated.Goals as goal

pub returns-then-is_allocated : goal.returns-then-is_allocated
returns-then-is_allocated g c = λ told.
    let a = g.P.PlanPages.state c.args.v.now in
    counted a c.args.p.0 c.pfs_of-at.result.1 c.args.pfs.now.bytes (is_held a.view (resource.Byte c.args.p)) c.is_allocated.result (g.P.PlanPages.images c.args.v.now told) c.requires.inside c.is_whole.ensures.bytes (c.requires.read told)
    (c.pfs_of-at.ensures.at ∙ ap (λ (k : Geometry). (pfs_place k c.args.p.0).at) c.requires.geometry) refl
    (c.if-is_allocated.true ∙ sym (or_left _ (is_held a.view (resource.Byte c.args.p)) (sym c.is_allocated.ensures ∙ c.if-is_allocated.true)))

pub returns-else-is_allocated : goal.returns-else-is_allocated
returns-else-is_allocated g c = λ told.
    let a = g.P.PlanPages.state c.args.v.now in
    counted a c.args.p.0 c.pfs_of-at.result.1 c.args.pfs.now.bytes c.is_held.result c.is_held.result (g.P.PlanPages.images c.args.v.now told) c.requires.inside c.is_whole.ensures.bytes (c.requires.read told)
    (c.pfs_of-at.ensures.at ∙ ap (λ (k : Geometry). (pfs_place k c.args.p.0).at) c.requires.geometry) c.is_held.ensures
    (sym (ap (λ b. b || c.is_held.result) (sym c.is_allocated.ensures ∙ c.if-is_allocated.false)))
