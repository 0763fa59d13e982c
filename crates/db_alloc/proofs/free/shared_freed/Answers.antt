use Rattle.std.proofs.Common.{◌*◌, ◌/◌, [], Contains, sym, subst}
use Rattle.spec_file.specs.declared.geometry.Geometry.{Geometry}
use Rattle.spec_file.specs.Places.{gam_place, sgam_place, pfs_page}
use Rattle.spec_words.specs.Words.{put_pfs, sees}
use Rattle.spec_alloc.specs.Search.{gam_read, sgam_read}
use Rattle.spec_alloc.specs.Freeing.{is_in_use, put_bits, shared_freed}
use Rattle.db_locks.proofs.PlanLaws.{stays_then, does_more}
use Rattle.db_alloc.proofs.FreeSteps.{IsAt, at_stays, extent_of_page, at_place, goes_none, goes_then, goes_exit, in_shape, passed, byte_put, use_known}
use Rattle.db_alloc.proofs.free.shared_freed.Goals as goal

pub returns-in_err-read_pfs : goal.returns-in_err-read_pfs
returns-in_err-read_pfs g c =
    let a = g.P.PlanPages.state c.args.v.now in
    goes_exit _ (goes_none [] a (shared_freed a.view.shape c.args.p.0)) c.in_err-read_pfs.ensures.does c.from_residual.ensures.1

pub returns-in_err-take : goal.returns-in_err-take
returns-in_err-take g c =
    let a = g.P.PlanPages.state c.args.v.now in
    let l = goes_then _ (goes_none [] a (shared_freed a.view.shape c.args.p.0)) c.in_ok-read_pfs.ensures.does in
    goes_exit _ l (does_more l.looked c.in_err-take.ensures.take) c.from_residual-in_err-take.ensures.1

pub returns-in_err-read_gam : goal.returns-in_err-read_gam
returns-in_err-read_gam g c =
    let a = g.P.PlanPages.state c.args.v.now in
    let l1 = goes_then _ (goes_none [] a (shared_freed a.view.shape c.args.p.0)) c.in_ok-read_pfs.ensures.does in
    let l2 = goes_then _ l1 (does_more l1.looked c.in_ok-take.ensures.take) in
    goes_exit _ l2 (does_more l2.looked (in_shape (λ s. gam_read s (c.args.p.0 / 8)) l2.stays c.in_err-read_gam.ensures.does)) c.from_residual-in_err-read_gam.ensures.1

pub returns-in_err-read_sgam : goal.returns-in_err-read_sgam
returns-in_err-read_sgam g c =
    let a = g.P.PlanPages.state c.args.v.now in
    let l1 = goes_then _ (goes_none [] a (shared_freed a.view.shape c.args.p.0)) c.in_ok-read_pfs.ensures.does in
    let l2 = goes_then _ l1 (does_more l1.looked c.in_ok-take.ensures.take) in
    let l3 = goes_then _ l2 (does_more l2.looked (in_shape (λ s. gam_read s (c.args.p.0 / 8)) l2.stays c.in_ok-read_gam.ensures.does)) in
    goes_exit _ l3 (does_more l3.looked (in_shape (λ s. sgam_read s (c.args.p.0 / 8)) l3.stays c.in_err-read_sgam.ensures.does)) c.from_residual-in_err-read_sgam.ensures.1

pub returns-in_err-set_pfs_byte : goal.returns-in_err-set_pfs_byte
returns-in_err-set_pfs_byte g c =
    let p = c.args.p.0 in
    let l = passed p c.in_ok-read_pfs.ensures.does c.in_ok-take.ensures.take c.in_ok-read_gam.ensures.does c.in_ok-read_sgam.ensures.does in
    let put = c.in_err-set_pfs_byte.ensures l.goes.looked (λ told. subst (λ (h : Geometry). Contains l.goes.looked (pfs_page h p)) (sym c.requires.geometry) l.pfs) in
    goes_exit _ l.goes (in_shape (λ s. put_pfs s p 0) l.goes.stays put) c.from_residual-in_err-set_pfs_byte.ensures.1

pub check_in_use-requires : goal.check_in_use-requires
check_in_use-requires g c =
    let a = g.P.PlanPages.state c.args.v.now in
    let p = c.args.p.0 in
    let first : IsAt c.args.geometry (p / 8) c.args.own a = record { geometry = c.requires.geometry; inside = extent_of_page a.view.shape.geometry a.view.shape.pages p (g.P.PlanPages.size c.args.v.now) c.requires.inside; free = c.requires.own } in
    let l = passed p c.in_ok-read_pfs.ensures.does c.in_ok-take.ensures.take c.in_ok-read_gam.ensures.does c.in_ok-read_sgam.ensures.does in
    let put = c.in_ok-set_pfs_byte.ensures l.goes.looked (λ told. subst (λ (h : Geometry). Contains l.goes.looked (pfs_page h p)) (sym c.requires.geometry) l.pfs) in
    let here = at_stays (stays_then l.goes.stays put.stays) first in
    record { geometry = here.geometry; inside = here.inside; own = here.free }

pub returns-in_err-in_use : goal.returns-in_err-in_use
returns-in_err-in_use g c =
    let p = c.args.p.0 in
    let l = passed p c.in_ok-read_pfs.ensures.does c.in_ok-take.ensures.take c.in_ok-read_gam.ensures.does c.in_ok-read_sgam.ensures.does in
    let put = byte_put p l (c.in_ok-set_pfs_byte.ensures l.goes.looked (λ told. subst (λ (h : Geometry). Contains l.goes.looked (pfs_page h p)) (sym c.requires.geometry) l.pfs)) in
    let seen = c.in_err-in_use.ensures.does put.goes.looked (λ told. at_place (λ h. pfs_page h (8 * (p / 8))) put.goes.looked put.goes.stays put.pfs) in
    goes_exit _ put.goes (in_shape (λ s. sees (is_in_use s (p / 8))) put.goes.stays seen) c.from_residual-in_err-in_use.ensures.1

pub set_bits-requires : goal.set_bits-requires
set_bits-requires g c =
    let a = g.P.PlanPages.state c.args.v.now in
    let p = c.args.p.0 in
    let first : IsAt c.args.geometry (p / 8) c.args.own a = record { geometry = c.requires.geometry; inside = extent_of_page a.view.shape.geometry a.view.shape.pages p (g.P.PlanPages.size c.args.v.now) c.requires.inside; free = c.requires.own } in
    let l = passed p c.in_ok-read_pfs.ensures.does c.in_ok-take.ensures.take c.in_ok-read_gam.ensures.does c.in_ok-read_sgam.ensures.does in
    let put = byte_put p l (c.in_ok-set_pfs_byte.ensures l.goes.looked (λ told. subst (λ (h : Geometry). Contains l.goes.looked (pfs_page h p)) (sym c.requires.geometry) l.pfs)) in
    let seen = c.in_ok-in_use.ensures.does put.goes.looked (λ told. at_place (λ h. pfs_page h (8 * (p / 8))) put.goes.looked put.goes.stays put.pfs) in
    let here = at_stays (stays_then put.goes.stays seen.stays) first in
    record { geometry = here.geometry; inside = here.inside }

pub returns : goal.returns
returns g c =
    let p = c.args.p.0 in
    let l = passed p c.in_ok-read_pfs.ensures.does c.in_ok-take.ensures.take c.in_ok-read_gam.ensures.does c.in_ok-read_sgam.ensures.does in
    let put = byte_put p l (c.in_ok-set_pfs_byte.ensures l.goes.looked (λ told. subst (λ (h : Geometry). Contains l.goes.looked (pfs_page h p)) (sym c.requires.geometry) l.pfs)) in
    let seen = use_known p _ put (c.in_ok-in_use.ensures.does put.goes.looked (λ told. at_place (λ h. pfs_page h (8 * (p / 8))) put.goes.looked put.goes.stays put.pfs)) in
    seen.goes.lead _ _ (in_shape (λ s. put_bits s (p / 8) c.in_ok-in_use.in_use) seen.goes.stays
    (c.set_bits.ensures seen.goes.looked (λ told. at_place (λ h. (gam_place h (p / 8)).page) seen.goes.looked seen.goes.stays seen.gam) (λ told. at_place (λ h. (sgam_place h (p / 8)).page) seen.goes.looked seen.goes.stays seen.sgam)))
