use Rattle.std.proofs.Common.{false, [], ap, sym}
use Rattle.spec_file.specs.Places.{gam_place}
use Rattle.spec_words.specs.Words.{put_gam}
use Rattle.spec_alloc.specs.Search.{gam_read, sgam_read}
use Rattle.spec_alloc.specs.Freeing.{extent_freed}
use Rattle.db_locks.proofs.PlanLaws.{does_exit, does_more}
use Rattle.db_alloc.proofs.Steps.{does_plan}
use Rattle.db_alloc.proofs.FreeSteps.{at_place, goes_none, goes_then, goes_exit, in_shape, kept_bits, both_read}
use Rattle.db_alloc.proofs.free.extent_freed.Goals as goal

pub returns-then-in_use : goal.returns-then-in_use
returns-then-in_use g c =
    let shape = (g.P.PlanPages.state c.args.v.now).view.shape in
    does_plan (ap (extent_freed shape c.args.e.0) (sym c.if-in_use.true)) (kept_bits c.args.e.0 _ c.in_ok-read_gam.ensures.does c.read_sgam.ensures.does)

pub returns-in_err-read_gam : goal.returns-in_err-read_gam
returns-in_err-read_gam g c =
    let shape = (g.P.PlanPages.state c.args.v.now).view.shape in
    does_plan (ap (extent_freed shape c.args.e.0) (sym c.if-in_use.true)) (does_exit (λ _. sgam_read shape c.args.e.0) c.in_err-read_gam.ensures.does c.from_residual.ensures.1)

pub returns-in_err-take : goal.returns-in_err-take
returns-in_err-take g c =
    let a = g.P.PlanPages.state c.args.v.now in
    let free = extent_freed a.view.shape c.args.e.0 in
    does_plan (ap free (sym c.if-in_use.false)) (goes_exit _ (goes_none [] a (free false)) c.in_err-take.ensures.take c.from_residual-in_err-take.ensures.1)

pub returns-in_err-read_gam-2 : goal.returns-in_err-read_gam-2
returns-in_err-read_gam-2 g c =
    let a = g.P.PlanPages.state c.args.v.now in
    let free = extent_freed a.view.shape c.args.e.0 in
    let l = goes_then _ (goes_none [] a (free false)) c.in_ok-take.ensures.take in
    does_plan (ap free (sym c.if-in_use.false))
    (goes_exit _ l (does_more l.looked (in_shape (λ s. gam_read s c.args.e.0) l.stays c.in_err-read_gam-2.ensures.does)) c.from_residual-in_err-read_gam-2.ensures.1)

pub returns-in_err-read_sgam : goal.returns-in_err-read_sgam
returns-in_err-read_sgam g c =
    let a = g.P.PlanPages.state c.args.v.now in
    let free = extent_freed a.view.shape c.args.e.0 in
    let l1 = goes_then _ (goes_none [] a (free false)) c.in_ok-take.ensures.take in
    let l2 = goes_then _ l1 (does_more l1.looked (in_shape (λ s. gam_read s c.args.e.0) l1.stays c.in_ok-read_gam-2.ensures.does)) in
    does_plan (ap free (sym c.if-in_use.false))
    (goes_exit _ l2 (does_more l2.looked (in_shape (λ s. sgam_read s c.args.e.0) l2.stays c.in_err-read_sgam.ensures.does)) c.from_residual-in_err-read_sgam.ensures.1)

pub returns : goal.returns
returns g c =
    let a = g.P.PlanPages.state c.args.v.now in
    let e = c.args.e.0 in
    let l = both_read e c.in_ok-take.ensures.take c.in_ok-read_gam-2.ensures.does c.in_ok-read_sgam.ensures.does in
    does_plan (ap (extent_freed a.view.shape e) (sym c.if-in_use.false))
    (l.goes.lead _ _ (in_shape (λ s. put_gam s e 1) l.goes.stays (c.set_gam_bit.ensures l.goes.looked (λ told. at_place (λ h. (gam_place h e).page) l.goes.looked l.goes.stays l.gam))))
