use Rattle.std.proofs.Common.{◌<◌, ◌/◌, refl, sym, ap, ◌∙◌, subst}
use Rattle.spec_words.specs.NetChanges.{FileShape}
use Rattle.spec_words.specs.Words.{put_sgam}
use Rattle.spec_alloc.specs.SinglePages.{of_mixed}
use Rattle.db_locks.proofs.PlanLaws.{stays_then}
use Rattle.db_alloc.proofs.SingleSteps.{does_next, may_read_later, reached_later, stays_of, extent_inside}
use Rattle.db_alloc.proofs.Steps.{does_plan, does_exit_as}
use Rattle.db_alloc.proofs.single.take_free.Goals as goal

pub set_gam_bit-requires-clause-inside : goal.set_gam_bit-requires-clause-inside
set_gam_bit-requires-clause-inside g c = extent_inside (g.P.PlanPages.state c.args.v.now) c.args.p.0 (g.P.PlanPages.size c.args.v.now) c.requires.inside

pub set_sgam_bit-requires-clause-geometry : goal.set_sgam_bit-requires-clause-geometry
set_sgam_bit-requires-clause-geometry g c = (may_read_later c.args.reader (stays_of _ c.in_ok-set_gam_bit.ensures) c.requires.reader).geometry

pub set_sgam_bit-requires-clause-inside : goal.set_sgam_bit-requires-clause-inside
set_sgam_bit-requires-clause-inside g c =
    subst (λ (s : FileShape). c.args.p.0 / 8 < s.pages / 8) (sym (stays_of _ c.in_ok-set_gam_bit.ensures).shape) (extent_inside (g.P.PlanPages.state c.args.v.now) c.args.p.0 (g.P.PlanPages.size c.args.v.now) c.requires.inside)

pub take_mixed-requires-clause-reader : goal.take_mixed-requires-clause-reader
take_mixed-requires-clause-reader g c = may_read_later c.args.reader (stays_then (stays_of _ c.in_ok-set_gam_bit.ensures) (stays_of _ c.in_ok-set_sgam_bit.ensures)) c.requires.reader

pub take_mixed-requires-clause-inside : goal.take_mixed-requires-clause-inside
take_mixed-requires-clause-inside g c = subst (λ (s : FileShape). c.args.p.0 < s.pages) (sym ((stays_of _ c.in_ok-set_sgam_bit.ensures).shape ∙ (stays_of _ c.in_ok-set_gam_bit.ensures).shape)) c.requires.inside

pub returns-in_err-set_gam_bit-clause-does : goal.returns-in_err-set_gam_bit-clause-does
returns-in_err-set_gam_bit-clause-does g c = λ looked before.
    does_exit_as _ _ c.in_err-set_gam_bit.field-0.0 _ refl (c.in_err-set_gam_bit.ensures looked (λ told. (before told).gam)) c.from_residual.ensures.1

pub returns-in_err-set_sgam_bit-clause-does : goal.returns-in_err-set_sgam_bit-clause-does
returns-in_err-set_sgam_bit-clause-does g c = λ looked before.
    let s1 = stays_of _ c.in_ok-set_gam_bit.ensures in
    does_next _ (c.in_ok-set_gam_bit.ensures looked (λ told. (before told).gam))
    (does_exit_as _ _ c.in_err-set_sgam_bit.field-0.0 _ refl
    (does_plan (ap (λ (s : FileShape). put_sgam s (c.args.p.0 / 8) 1) s1.shape) (c.in_err-set_sgam_bit.ensures looked (λ told. (reached_later looked c.args.p.0 s1 before told).sgam)))
    c.from_residual-in_err-set_sgam_bit.ensures.1)

pub returns-clause-does : goal.returns-clause-does
returns-clause-does g c = λ looked before.
    let s1 = stays_of _ c.in_ok-set_gam_bit.ensures in
    let s2 = stays_then s1 (stays_of _ c.in_ok-set_sgam_bit.ensures) in
    does_next _ (c.in_ok-set_gam_bit.ensures looked (λ told. (before told).gam))
    (does_next _ (does_plan (ap (λ (s : FileShape). put_sgam s (c.args.p.0 / 8) 1) s1.shape) (c.in_ok-set_sgam_bit.ensures looked (λ told. (reached_later looked c.args.p.0 s1 before told).sgam)))
    (does_plan (ap (λ (s : FileShape). of_mixed s c.args.byte c.args.p.0) s2.shape) (c.take_mixed.ensures.does looked (reached_later looked c.args.p.0 s2 before))))
