use Rattle.std.proofs.Common.{◌<◌, ◌/◌, [], ◌∷◌, sym, ap, ◌∙◌, subst}
use Rattle.std.proofs.lemmas.List.Elements.{Contains-push, Contains-append_left}
use Rattle.spec_file.specs.Places.{gam_place, sgam_place}
use Rattle.spec_words.specs.NetChanges.{FileShape}
use Rattle.spec_words.specs.Words.{put_gam}
use Rattle.spec_alloc.specs.Freeing.{put_bits}
use Rattle.db_locks.proofs.PlanLaws.{does_after, does_exit}
use Rattle.db_alloc.proofs.FreeSteps.{in_shape, at_place}
use Rattle.db_alloc.proofs.Steps.{does_plan}
use Rattle.db_alloc.proofs.free.set_bits.Goals as goal

pub returns-then-in_use : goal.returns-then-in_use
returns-then-in_use g c = λ looked gam sgam.
    let shape = (g.P.PlanPages.state c.args.v.now).view.shape in
    does_plan (ap (put_bits shape c.args.e.0) (sym c.if-in_use.true)) (c.set_sgam_bit.ensures looked sgam)

pub returns-in_err-set_sgam_bit : goal.returns-in_err-set_sgam_bit
returns-in_err-set_sgam_bit g c = λ looked gam sgam.
    let shape = (g.P.PlanPages.state c.args.v.now).view.shape in
    does_plan (ap (put_bits shape c.args.e.0) (sym c.if-in_use.false)) (does_exit (λ _. put_gam shape c.args.e.0 1) (c.in_err-set_sgam_bit.ensures looked sgam) c.from_residual.ensures.1)

pub set_gam_bit-requires-clause-geometry : goal.set_gam_bit-requires-clause-geometry
set_gam_bit-requires-clause-geometry g c =
    let q = (sgam_place (g.P.PlanPages.state c.args.v.now).view.shape.geometry c.args.e.0).page in
    let stays = (c.in_ok-set_sgam_bit.ensures (q ∷ []) (λ _. Contains-push [] q)).stays in
    c.requires.geometry ∙ sym (ap (λ (s : FileShape). s.geometry) stays.shape)

pub set_gam_bit-requires-clause-inside : goal.set_gam_bit-requires-clause-inside
set_gam_bit-requires-clause-inside g c =
    let q = (sgam_place (g.P.PlanPages.state c.args.v.now).view.shape.geometry c.args.e.0).page in
    let stays = (c.in_ok-set_sgam_bit.ensures (q ∷ []) (λ _. Contains-push [] q)).stays in
    subst (λ (s : FileShape). c.args.e.0 < s.pages / 8) (sym stays.shape) c.requires.inside

pub returns : goal.returns
returns g c = λ looked gam sgam.
    let a = g.P.PlanPages.state c.args.v.now in
    let e = c.args.e.0 in
    let low = c.in_ok-set_sgam_bit.ensures looked sgam in
    does_plan (ap (put_bits a.view.shape e) (sym c.if-in_use.false))
    (does_after (λ _. put_gam a.view.shape e 1) low (in_shape (λ s. put_gam s e 1) low.stays (c.set_gam_bit.ensures _ (λ told.
    at_place (λ h. (gam_place h e).page) _ low.stays (Contains-append_left looked _ (gam_place a.view.shape.geometry e).page (gam (sym low.stays.told ∙ told)))))))
