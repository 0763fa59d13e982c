use Rattle.std.proofs.Common.{ℕ, Contains, ap, sym, ◌∙◌, subst, [], ◌∷◌}
use Rattle.spec_file.specs.declared.data.Resource.TheVariants as resource
use Rattle.spec_file.specs.Places.{pfs_place}
use Rattle.spec_log.specs.declared.item.Cell.TheVariants.{Bytes}
use Rattle.db_locks.proofs.CellSteps.{as_pfs, write_unlooked, byte_may_be_put, byte_written}
use Rattle.db_locks.proofs.PageLaws.{inside_page}
use Rattle.db_locks.proofs.cells.set_pfs_byte.Goals as goal

pub returns-in_err-look : goal.returns-in_err-look
returns-in_err-look g c = λ looked before.
    let a = g.P.PlanPages.state c.args.view.now in
    as_pfs a (g.P.PlanPages.state c.look.new.self) c.args.p.0 _ _ c.args.byte looked _
    (c.pfs_of-at.ensures.page ∙ ap (λ k. (pfs_place k c.args.p.0).page) c.requires.geometry) (c.pfs_of-at.ensures.at ∙ ap (λ k. (pfs_place k c.args.p.0).at) c.requires.geometry)
    (write_unlooked a (g.P.PlanPages.state c.look.new.self) (resource.Byte c.args.p) c.pfs_of-at.result.0.0 (Bytes c.pfs_of-at.result.0 c.pfs_of-at.result.1) (c.args.byte ∷ []) looked _
    (λ told. subst (λ (k : ℕ). Contains looked k) (sym c.pfs_of-at.ensures.page) (before told)) c.in_err-look.ensures.look c.from_residual.ensures.1)

pub put-requires-clause-guarded : goal.put-requires-clause-guarded
put-requires-clause-guarded g c =
    byte_may_be_put (g.P.PlanPages.state c.args.view.now) (g.P.PlanPages.state c.look.new.self) (g.P.PlanPages.state c.take.new.self) c.args.p.0 c.pfs_of-at.result.0.0 c.pfs_of-at.result.1 c.args.byte c.look.new.into.bytes
    c.requires.inside (g.P.PlanPages.size c.args.view.now)
    (c.pfs_of-at.ensures.page ∙ ap (λ k. (pfs_place k c.args.p.0).page) c.requires.geometry) (c.pfs_of-at.ensures.at ∙ ap (λ k. (pfs_place k c.args.p.0).at) c.requires.geometry)
    (record { look = c.in_ok-look.ensures.look; shown = c.in_ok-look.ensures.shown; guarded = (λ told. c.in_ok-look.ensures.guarded told (resource.Byte c.args.p) c.in_ok-look.ensures.free); view = c.in_ok-look.ensures.view; same = c.in_ok-look.ensures.same; low = c.is_whole.ensures.bytes; long = c.is_whole.ensures.long })
    (record { take = c.in_ok-take.ensures.take; taken = c.in_ok-take.ensures.taken; same = c.in_ok-take.ensures.same })

pub returns : goal.returns
returns g c = λ looked before.
    let a = g.P.PlanPages.state c.args.view.now in
    let eq = c.pfs_of-at.ensures.page ∙ ap (λ k. (pfs_place k c.args.p.0).page) c.requires.geometry in
    let ea = c.pfs_of-at.ensures.at ∙ ap (λ k. (pfs_place k c.args.p.0).at) c.requires.geometry in
    as_pfs a (g.P.PlanPages.state c.put.new.self) c.args.p.0 _ _ c.args.byte looked c.put.result eq ea
    (byte_written a (g.P.PlanPages.state c.look.new.self) (g.P.PlanPages.state c.take.new.self) (g.P.PlanPages.state c.put.new.self) c.args.p.0 c.pfs_of-at.result.0.0 c.pfs_of-at.result.1 c.args.byte c.look.new.into.bytes looked c.put.result
    (g.P.PlanPages.images c.args.view.now) c.requires.inside (g.P.PlanPages.size c.args.view.now) eq ea (inside_page c.args.geometry c.args.p.0 c.pfs_of-at.result.1 c.look.new.into.bytes c.pfs_of-at.ensures.at c.is_whole.ensures.long)
    (λ told. subst (λ (k : ℕ). Contains looked k) (sym c.pfs_of-at.ensures.page) (before told))
    (record { look = c.in_ok-look.ensures.look; shown = c.in_ok-look.ensures.shown; guarded = (λ told. c.in_ok-look.ensures.guarded told (resource.Byte c.args.p) c.in_ok-look.ensures.free); view = c.in_ok-look.ensures.view; same = c.in_ok-look.ensures.same; low = c.is_whole.ensures.bytes; long = c.is_whole.ensures.long })
    (record { take = c.in_ok-take.ensures.take; taken = c.in_ok-take.ensures.taken; same = c.in_ok-take.ensures.same })
    c.put.ensures.put)
