use Rattle.std.proofs.Common.{[]}
use Rattle.spec_file.specs.Places.{gam_place}
use Rattle.spec_words.specs.Words.{put_gam}
use Rattle.spec_alloc.specs.Search.{gam_read}
use Rattle.spec_alloc.specs.Objects.{left_freed}
use Rattle.db_locks.proofs.PlanLaws.{does_more}
use Rattle.db_alloc.proofs.FreeSteps.{at_place, goes_none, goes_then, goes_exit, in_shape, one_read}
use Rattle.db_alloc.proofs.free.left_freed.Goals as goal

pub returns-in_err-take : goal.returns-in_err-take
returns-in_err-take g c =
    let a = g.P.PlanPages.state c.args.v.now in
    goes_exit _ (goes_none [] a (left_freed a.view.shape c.args.e.0)) c.in_err-take.ensures.take c.from_residual.ensures.1

pub returns-in_err-read_gam : goal.returns-in_err-read_gam
returns-in_err-read_gam g c =
    let a = g.P.PlanPages.state c.args.v.now in
    let l = goes_then _ (goes_none [] a (left_freed a.view.shape c.args.e.0)) c.in_ok-take.ensures.take in
    goes_exit _ l (does_more l.looked (in_shape (λ s. gam_read s c.args.e.0) l.stays c.in_err-read_gam.ensures.does)) c.from_residual-in_err-read_gam.ensures.1

pub returns : goal.returns
returns g c =
    let e = c.args.e.0 in
    let l = one_read e c.in_ok-take.ensures.take c.in_ok-read_gam.ensures.does in
    l.goes.lead _ _ (in_shape (λ s. put_gam s e 1) l.goes.stays (c.set_gam_bit.ensures l.goes.looked (λ told. at_place (λ h. (gam_place h e).page) l.goes.looked l.goes.stays l.gam)))
