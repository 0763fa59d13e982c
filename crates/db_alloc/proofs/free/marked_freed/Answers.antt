use Rattle.std.proofs.Common.{◌*◌, ◌/◌, [], Contains, sym, subst}
use Rattle.spec_file.specs.declared.geometry.Geometry.{Geometry}
use Rattle.spec_file.specs.Places.{pfs_page}
use Rattle.spec_words.specs.Words.{put_pfs, sees}
use Rattle.spec_alloc.specs.Freeing.{is_in_use, extent_freed, marked_freed}
use Rattle.db_locks.proofs.PlanLaws.{stays_then, does_more, does_give}
use Rattle.db_alloc.proofs.FreeSteps.{IsAt, at_stays, extent_of_page, at_place, goes_none, goes_then, goes_exit, in_shape, map_reached, marked_put}
use Rattle.spec_file.specs.declared.page_type.TheConstants.{PFS_TYPE}
use Rattle.db_alloc.proofs.free.marked_freed.Goals as goal

pub returns-in_err-read_pfs : goal.returns-in_err-read_pfs
returns-in_err-read_pfs g c =
    let a = g.P.PlanPages.state c.args.v.now in
    goes_exit _ (goes_none [] a (marked_freed a.view.shape c.args.p.0)) c.in_err-read_pfs.ensures.does c.from_residual.ensures.1

pub returns-in_err-set_pfs_byte : goal.returns-in_err-set_pfs_byte
returns-in_err-set_pfs_byte g c =
    let a = g.P.PlanPages.state c.args.v.now in
    let p = c.args.p.0 in
    let l = goes_then _ (goes_none [] a (marked_freed a.view.shape p)) c.in_ok-read_pfs.ensures.does in
    let there = map_reached [] PFS_TYPE (pfs_page a.view.shape.geometry p) a.view in
    let put = c.in_err-set_pfs_byte.ensures l.looked (λ told. subst (λ (h : Geometry). Contains l.looked (pfs_page h p)) (sym c.requires.geometry) there) in
    goes_exit _ l (in_shape (λ s. put_pfs s p 0) l.stays put) c.from_residual-in_err-set_pfs_byte.ensures.1

pub check_in_use-requires : goal.check_in_use-requires
check_in_use-requires g c =
    let a = g.P.PlanPages.state c.args.v.now in
    let p = c.args.p.0 in
    let first : IsAt c.args.geometry (p / 8) c.args.own a = record { geometry = c.requires.geometry; inside = extent_of_page a.view.shape.geometry a.view.shape.pages p (g.P.PlanPages.size c.args.v.now) c.requires.inside; free = c.requires.own } in
    let l = marked_put p c.in_ok-read_pfs.ensures.does (λ looked there. c.in_ok-set_pfs_byte.ensures looked (λ told. subst (λ (h : Geometry). Contains looked (pfs_page h p)) (sym c.requires.geometry) there)) in
    let here = at_stays l.goes.stays first in
    record { geometry = here.geometry; inside = here.inside; own = here.free }

pub returns-in_err-in_use : goal.returns-in_err-in_use
returns-in_err-in_use g c =
    let p = c.args.p.0 in
    let l = marked_put p c.in_ok-read_pfs.ensures.does (λ looked there. c.in_ok-set_pfs_byte.ensures looked (λ told. subst (λ (h : Geometry). Contains looked (pfs_page h p)) (sym c.requires.geometry) there)) in
    let seen = c.in_err-in_use.ensures.does l.goes.looked (λ told. at_place (λ h. pfs_page h (8 * (p / 8))) l.goes.looked l.goes.stays l.pfs) in
    goes_exit _ l.goes (in_shape (λ s. sees (is_in_use s (p / 8))) l.goes.stays seen) c.from_residual-in_err-in_use.ensures.1

pub extent_freed-requires : goal.extent_freed-requires
extent_freed-requires g c =
    let a = g.P.PlanPages.state c.args.v.now in
    let p = c.args.p.0 in
    let first : IsAt c.args.geometry (p / 8) c.args.own a = record { geometry = c.requires.geometry; inside = extent_of_page a.view.shape.geometry a.view.shape.pages p (g.P.PlanPages.size c.args.v.now) c.requires.inside; free = c.requires.own } in
    let l = marked_put p c.in_ok-read_pfs.ensures.does (λ looked there. c.in_ok-set_pfs_byte.ensures looked (λ told. subst (λ (h : Geometry). Contains looked (pfs_page h p)) (sym c.requires.geometry) there)) in
    let seen = c.in_ok-in_use.ensures.does l.goes.looked (λ told. at_place (λ h. pfs_page h (8 * (p / 8))) l.goes.looked l.goes.stays l.pfs) in
    let here = at_stays (stays_then l.goes.stays seen.stays) first in
    record { geometry = here.geometry; inside = here.inside; own = here.free }

pub returns-in_err-extent_freed : goal.returns-in_err-extent_freed
returns-in_err-extent_freed g c =
    let p = c.args.p.0 in
    let l = marked_put p c.in_ok-read_pfs.ensures.does (λ looked there. c.in_ok-set_pfs_byte.ensures looked (λ told. subst (λ (h : Geometry). Contains looked (pfs_page h p)) (sym c.requires.geometry) there)) in
    let seen = goes_then _ l.goes (in_shape (λ s. sees (is_in_use s (p / 8))) l.goes.stays (c.in_ok-in_use.ensures.does l.goes.looked (λ told. at_place (λ h. pfs_page h (8 * (p / 8))) l.goes.looked l.goes.stays l.pfs))) in
    goes_exit _ seen (does_more seen.looked (in_shape (λ s. extent_freed s (p / 8) c.in_ok-in_use.in_use) seen.stays c.in_err-extent_freed.ensures)) c.from_residual-in_err-extent_freed.ensures.1

pub returns : goal.returns
returns g c =
    let p = c.args.p.0 in
    let l = marked_put p c.in_ok-read_pfs.ensures.does (λ looked there. c.in_ok-set_pfs_byte.ensures looked (λ told. subst (λ (h : Geometry). Contains looked (pfs_page h p)) (sym c.requires.geometry) there)) in
    let seen = goes_then _ l.goes (in_shape (λ s. sees (is_in_use s (p / 8))) l.goes.stays (c.in_ok-in_use.ensures.does l.goes.looked (λ told. at_place (λ h. pfs_page h (8 * (p / 8))) l.goes.looked l.goes.stays l.pfs))) in
    let freed = goes_then _ seen (does_more seen.looked (in_shape (λ s. extent_freed s (p / 8) c.in_ok-in_use.in_use) seen.stays c.in_ok-extent_freed.ensures)) in
    freed.lead _ _ (does_give freed.looked _ c.in_ok-in_use.in_use)
