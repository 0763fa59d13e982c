use Rattle.std.proofs.Common.{ℕ, ◌*◌, ◌/◌, Contains, true, false, sym, ap, ◌∙◌, subst}
use Rattle.spec_file.specs.Places.{pfs_page, sgam_place}
use Rattle.spec_words.specs.Views.{View}
use Rattle.spec_alloc.specs.SinglePages.{lower_sgam}
use Rattle.db_alloc.specs.Maps.{MapTells}
use Rattle.db_alloc.proofs.MapReads.{does_behind, behind_stop}
use Rattle.db_alloc.proofs.SingleSteps.{left_told, lower_none, lower_some, same_extent}
use Rattle.db_alloc.proofs.Steps.{does_plan}
use Rattle.db_alloc.proofs.single.lower_sgam.Goals as goal

pub returns-in_err-reread_pfs : goal.returns-in_err-reread_pfs
returns-in_err-reread_pfs g c = λ looked before.
    let a = g.P.PlanPages.state c.args.v.now in
    behind_stop (lower_sgam a.view.shape (c.args.p.0 / 8)) _ (c.in_err-reread_pfs.ensures.does looked (λ told. (before told).pfs)) c.from_residual.ensures.1

pub spare_page-left-requires-clause-read : goal.spare_page-left-requires-clause-read
spare_page-left-requires-clause-read g c = λ told.
    let a = g.P.PlanPages.state c.args.v.now in
    let tells = c.in_ok-reread_pfs.ensures.told (sym c.in_ok-reread_pfs.ensures.stays.told ∙ told) in
    subst (λ (v : View). MapTells v (pfs_page v.shape.geometry (8 * (c.args.p.0 / 8))) c.reread_pfs.new.into.bytes) (sym c.in_ok-reread_pfs.ensures.view)
    (subst (λ (q : ℕ). MapTells a.view q c.reread_pfs.new.into.bytes) (same_extent a.view.shape.geometry c.args.p.0) tells)

pub returns-then-is_some : goal.returns-then-is_some
returns-then-is_some g c = λ looked before.
    let b = g.P.PlanPages.state c.reread_pfs.new.v in
    let e = c.args.p.0 / 8 in
    does_behind (c.in_ok-reread_pfs.ensures.does looked (λ told. (before told).pfs))
    (does_plan (ap (λ (v : View). lower_sgam v.shape e) c.in_ok-reread_pfs.ensures.view)
    (lower_some b looked e (λ told. left_told b.view.shape b.view e c.spare_page-left.result true (c.spare_page-left.ensures.page told) (sym c.if-is_some.true ∙ c.is_some.ensures))))

pub returns : goal.returns
returns g c = λ looked before.
    let b = g.P.PlanPages.state c.reread_pfs.new.v in
    let e = c.args.p.0 / 8 in
    does_behind (c.in_ok-reread_pfs.ensures.does looked (λ told. (before told).pfs))
    (does_plan (ap (λ (v : View). lower_sgam v.shape e) c.in_ok-reread_pfs.ensures.view)
    (lower_none looked e (λ told. left_told b.view.shape b.view e c.spare_page-left.result false (c.spare_page-left.ensures.page told) (sym c.if-is_some.false ∙ c.is_some.ensures))
    (c.set_sgam_bit.ensures looked (λ told. subst (λ (v : View). Contains looked (sgam_place v.shape.geometry e).page) (sym c.in_ok-reread_pfs.ensures.view) (before (sym c.in_ok-reread_pfs.ensures.stays.told ∙ told)).sgam))))
