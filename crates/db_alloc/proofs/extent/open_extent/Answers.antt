use Rattle.std.proofs.Common.{◌<◌, ◌++◌, refl, sym, subst}
use Rattle.spec_words.specs.NetChanges.{FileShape}
use Rattle.spec_alloc.specs.ObjectPages.{marked_page_taken}
use Rattle.db_alloc.specs.Tables.{numbers}
use Rattle.db_alloc.proofs.FreeSteps.{in_shape}
use Rattle.db_alloc.proofs.SingleSteps.{does_next, may_read_later, reached_later, stays_of, extent_inside}
use Rattle.db_alloc.proofs.Steps.{does_exit_as}
use Rattle.db_alloc.proofs.extent.open_extent.Goals as goal

pub set_gam_bit-requires-clause-inside : goal.set_gam_bit-requires-clause-inside
set_gam_bit-requires-clause-inside g c = extent_inside (g.P.PlanPages.state c.args.v.now) c.args.p.0 (g.P.PlanPages.size c.args.v.now) c.requires.inside

pub take_marked-requires-clause-geometry : goal.take_marked-requires-clause-geometry
take_marked-requires-clause-geometry g c = (may_read_later c.args.reader (stays_of _ c.in_ok-set_gam_bit.ensures) c.requires.reader).geometry

pub take_marked-requires-clause-inside : goal.take_marked-requires-clause-inside
take_marked-requires-clause-inside g c = subst (λ (s : FileShape). c.args.p.0 < s.pages) (sym (stays_of _ c.in_ok-set_gam_bit.ensures).shape) c.requires.inside

pub returns-in_err-set_gam_bit : goal.returns-in_err-set_gam_bit
returns-in_err-set_gam_bit g c = λ looked before. does_exit_as _ _ c.in_err-set_gam_bit.field-0.0 _ refl (c.in_err-set_gam_bit.ensures looked (λ told. (before told).gam)) c.from_residual.ensures.1

pub returns : goal.returns
returns g c = λ looked before.
    let p = c.args.p.0 in
    let standing = numbers c.args.chain.now ++ numbers c.args.path.now in
    let put = c.in_ok-set_gam_bit.ensures looked (λ told. (before told).gam) in
    does_next _ put
    (in_shape (λ s. marked_page_taken s standing p) put.stays (c.take_marked.ensures looked (λ told. (reached_later looked p put.stays before told).pfs)))
