use Rattle.std.proofs.Common.{sym, ap, ◌∙◌}
use Rattle.spec_file.specs.declared.data.Resource.TheVariants as resource
use Rattle.spec_file.specs.declared.geometry.Geometry.{Geometry}
use Rattle.spec_file.specs.Places.{pfs_place}
use Rattle.db_locks.proofs.CellSteps.{byte_shown}
use Rattle.db_alloc.proofs.Pfs.{header_told, byte_good, byte_bad, byte_exit, byte_at}
use Rattle.db_alloc.proofs.look.look_byte.Goals as goal

pub returns-in_err-look-clause-does : goal.returns-in_err-look-clause-does
returns-in_err-look-clause-does g c =
    let at_page = c.pfs_of-at.ensures.page ∙ ap (λ (k : Geometry). (pfs_place k c.args.p.0).page) c.requires.geometry in
    byte_exit c.args.p.0 _ _ _ at_page c.in_err-look.ensures.look c.from_residual.ensures.1

pub returns-then-not-is_page_of-clause-does : goal.returns-then-not-is_page_of-clause-does
returns-then-not-is_page_of-clause-does g c =
    let a = g.P.PlanPages.state c.args.v.now in
    let at_page = c.pfs_of-at.ensures.page ∙ ap (λ (k : Geometry). (pfs_place k c.args.p.0).page) c.requires.geometry in
    byte_bad c.args.p.0 _ c.look.new.into.bytes at_page c.in_ok-look.ensures.look
    (λ told. c.in_ok-look.ensures.header told (header_told a.view.shape.geometry c.args.p.0 _ at_page)) (sym c.is_page_of.ensures ∙ c.if-not-is_page_of.true)

pub returns-clause-does : goal.returns-clause-does
returns-clause-does g c =
    let a = g.P.PlanPages.state c.args.v.now in
    let at_page = c.pfs_of-at.ensures.page ∙ ap (λ (k : Geometry). (pfs_place k c.args.p.0).page) c.requires.geometry in
    byte_good c.args.p.0 _ c.look.new.into.bytes at_page c.in_ok-look.ensures.look
    (λ told. c.in_ok-look.ensures.header told (header_told a.view.shape.geometry c.args.p.0 _ at_page)) (sym c.is_page_of.ensures ∙ c.if-not-is_page_of.false)

pub returns-clause-told : goal.returns-clause-told
returns-clause-told g c =
    let a = g.P.PlanPages.state c.args.v.now in
    let at_page = c.pfs_of-at.ensures.page ∙ ap (λ (k : Geometry). (pfs_place k c.args.p.0).page) c.requires.geometry in
    let at_place = c.pfs_of-at.ensures.at ∙ ap (λ (k : Geometry). (pfs_place k c.args.p.0).at) c.requires.geometry in
    λ told. byte_at a c.args.p.0 _ _ _ at_page at_place
    (byte_shown a c.args.p.0 _ _ c.look.new.into.bytes (g.P.PlanPages.images c.args.v.now) c.requires.inside (g.P.PlanPages.size c.args.v.now) at_page at_place c.is_whole.ensures.bytes (λ told. c.in_ok-look.ensures.guarded told (resource.Byte c.args.p) c.in_ok-look.ensures.free) told)
