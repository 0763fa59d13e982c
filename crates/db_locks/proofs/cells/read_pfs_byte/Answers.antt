use Rattle.std.proofs.Common.{ap, ◌∙◌}
use Rattle.spec_file.specs.declared.data.Resource.TheVariants as resource
use Rattle.spec_file.specs.Places.{pfs_place}
use Rattle.db_locks.proofs.CellSteps.{byte_read, byte_unread}
use Rattle.db_locks.proofs.cells.read_pfs_byte.Goals as goal

pub returns-in_err-look-clause-does : goal.returns-in_err-look-clause-does
returns-in_err-look-clause-does g c = byte_unread (g.P.PlanPages.state c.args.view.now) (g.P.PlanPages.state c.look.new.self) c.args.p.0 _ _
    (c.pfs_of-at.ensures.page ∙ ap (λ k. (pfs_place k c.args.p.0).page) c.requires.geometry) c.in_err-look.ensures.look c.from_residual.ensures.1

pub returns-clause-does : goal.returns-clause-does
returns-clause-does g c = byte_read (g.P.PlanPages.state c.args.view.now) (g.P.PlanPages.state c.look.new.self) c.args.p.0 _ _ c.look.new.into.bytes
    (g.P.PlanPages.images c.args.view.now) c.requires.inside (g.P.PlanPages.size c.args.view.now)
    (c.pfs_of-at.ensures.page ∙ ap (λ k. (pfs_place k c.args.p.0).page) c.requires.geometry) (c.pfs_of-at.ensures.at ∙ ap (λ k. (pfs_place k c.args.p.0).at) c.requires.geometry)
    c.is_whole.ensures.bytes (λ told. c.in_ok-look.ensures.guarded told (resource.Byte c.args.p) c.in_ok-look.ensures.free) c.in_ok-look.ensures.look
