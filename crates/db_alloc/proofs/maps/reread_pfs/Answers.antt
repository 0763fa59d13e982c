use Rattle.std.proofs.Common.{ℕ, ◌<◌, Contains, sym, ap, ◌∙◌, subst}
use Rattle.spec_file.specs.declared.geometry.Geometry.{Geometry}
use Rattle.spec_file.specs.Places.{pfs_page}
use Rattle.spec_words.specs.Words.{give}
use Rattle.db_locks.proofs.PlanLaws.{does_after, does_exit, does_more, does_give}
use Rattle.db_alloc.specs.Maps.{MapTells}
use Rattle.db_alloc.proofs.MapPlaces.{pfs_inside}
use Rattle.db_alloc.proofs.MapReads.{look_again}
use Rattle.db_alloc.proofs.maps.reread_pfs.Goals as goal

pub look-requires : goal.look-requires
look-requires g c =
    let a = g.P.PlanPages.state c.args.v.now in
    let eq = c.pfs_of-at.ensures.page ∙ ap (λ (k : Geometry). pfs_page k c.args.p.0) c.requires.geometry in
    subst (λ (q : ℕ). q < a.view.shape.pages) (sym eq) (pfs_inside a.view.shape.geometry a.view.shape.pages c.args.p.0 (g.P.PlanPages.size c.args.v.now) c.requires.inside)

pub returns-in_err-look-clause-does : goal.returns-in_err-look-clause-does
returns-in_err-look-clause-does g c = λ looked before.
    let eq = c.pfs_of-at.ensures.page ∙ ap (λ (k : Geometry). pfs_page k c.args.p.0) c.requires.geometry in
    look_again looked c.pfs_of-at.result.0.0 c.args.own c.requires.own (λ told. subst (λ (q : ℕ). Contains looked q) (sym eq) (before told))
    (does_exit (λ _. give tt) (does_more looked c.in_err-look.ensures.look) c.from_residual.ensures.1)

pub returns-clause-does : goal.returns-clause-does
returns-clause-does g c = λ looked before.
    let eq = c.pfs_of-at.ensures.page ∙ ap (λ (k : Geometry). pfs_page k c.args.p.0) c.requires.geometry in
    look_again looked c.pfs_of-at.result.0.0 c.args.own c.requires.own (λ told. subst (λ (q : ℕ). Contains looked q) (sym eq) (before told))
    (does_after (λ _. give tt) (does_more looked c.in_ok-look.ensures.look) (does_give _ _ tt))

pub returns-clause-told : goal.returns-clause-told
returns-clause-told g c = λ told.
    let a = g.P.PlanPages.state c.args.v.now in
    let eq = c.pfs_of-at.ensures.page ∙ ap (λ (k : Geometry). pfs_page k c.args.p.0) c.requires.geometry in
    subst (λ (q : ℕ). MapTells a.view q c.look.new.into.bytes) eq (record { agrees = c.in_ok-look.ensures.guarded told })

pub returns-in_err-look-clause-stays : goal.returns-in_err-look-clause-stays
returns-in_err-look-clause-stays g c = c.in_err-look.ensures.look.stays

pub returns-clause-stays : goal.returns-clause-stays
returns-clause-stays g c = c.in_ok-look.ensures.look.stays
