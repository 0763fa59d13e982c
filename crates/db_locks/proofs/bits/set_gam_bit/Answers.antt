use Rattle.std.proofs.Common.{ℕ, Contains, ap, sym, ◌∙◌, subst}
use Rattle.spec_file.specs.declared.data.Resource.TheVariants as resource
use Rattle.spec_file.specs.Places.{gam_place}
use Rattle.spec_log.specs.Cover.{bit_guard}
use Rattle.law_cover.proofs.Places.{extents_guard_bits}
use Rattle.db_locks.proofs.CellSteps.{as_place}
use Rattle.db_locks.proofs.bits.set_gam_bit.Goals as goal

pub set_bit-requires-clause-guard : goal.set_bit-requires-clause-guard
set_bit-requires-clause-guard g c =
    let shape = (g.P.PlanPages.state c.args.view.now).view.shape in
    let file = g.P.PlanPages.size c.args.view.now in
    ap (λ k. bit_guard shape.geometry shape.pages k c.gam_of.result.1) (c.gam_of.ensures.page ∙ ap (λ k. (gam_place k c.args.e.0).page) c.requires.geometry)
    ∙ ap (λ k. bit_guard shape.geometry shape.pages (gam_place shape.geometry c.args.e.0).page k) (c.gam_of.ensures.at ∙ ap (λ k. (gam_place k c.args.e.0).at) c.requires.geometry)
    ∙ (extents_guard_bits shape.geometry shape.pages c.args.e.0 file.low file.high c.requires.inside).0

pub returns : goal.returns
returns g c = λ looked before.
    let a = g.P.PlanPages.state c.args.view.now in
    let eq = c.gam_of.ensures.page ∙ ap (λ k. (gam_place k c.args.e.0).page) c.requires.geometry in
    as_place a (g.P.PlanPages.state c.set_bit.new.view) (resource.Extent c.args.e) c.gam_of.result.0.0 c.gam_of.result.1 c.args.value (gam_place a.view.shape.geometry c.args.e.0) looked c.set_bit.result
    eq (c.gam_of.ensures.at ∙ ap (λ k. (gam_place k c.args.e.0).at) c.requires.geometry)
    (c.set_bit.ensures looked (λ told. subst (λ (k : ℕ). Contains looked k) (sym eq) (before told)))
