use Rattle.std.proofs.Common.{◌<◌, ◌/◌, [], ◌∷◌, Contains, refl, sym, ap, ◌∙◌, subst}
use Rattle.std.proofs.lemmas.List.Elements.{Contains-push}
use Rattle.spec_file.specs.declared.geometry.Geometry.{Geometry}
use Rattle.spec_file.specs.Places.{pfs_page}
use Rattle.spec_words.specs.NetChanges.{FileShape}
use Rattle.spec_words.specs.Words.{put_pfs}
use Rattle.spec_alloc.specs.SinglePages.{lower_sgam}
use Rattle.db_locks.proofs.PlanLaws.{does_more, does_give, stays_then}
use Rattle.db_alloc.proofs.SingleSteps.{does_next, may_read_later, reached_later}
use Rattle.db_alloc.proofs.Steps.{does_plan, does_exit_as}
use Rattle.db_alloc.proofs.single.take_mixed.Goals as goal

pub set_pfs_byte-requires-clause-geometry : goal.set_pfs_byte-requires-clause-geometry
set_pfs_byte-requires-clause-geometry g c = (may_read_later c.args.reader c.in_ok-take.ensures.take.stays c.requires.reader).geometry

pub set_pfs_byte-requires-clause-inside : goal.set_pfs_byte-requires-clause-inside
set_pfs_byte-requires-clause-inside g c = subst (λ (s : FileShape). c.args.p.0 < s.pages) (sym c.in_ok-take.ensures.take.stays.shape) c.requires.inside

pub lower_sgam-requires-clause-reader : goal.lower_sgam-requires-clause-reader
lower_sgam-requires-clause-reader g c =
    let put = c.in_ok-set_pfs_byte.ensures (pfs_page c.args.reader.geometry c.args.p.0 ∷ []) (λ told. Contains-push [] _) in
    may_read_later c.args.reader (stays_then c.in_ok-take.ensures.take.stays put.stays) c.requires.reader

pub lower_sgam-requires-clause-inside : goal.lower_sgam-requires-clause-inside
lower_sgam-requires-clause-inside g c =
    let put = c.in_ok-set_pfs_byte.ensures (pfs_page c.args.reader.geometry c.args.p.0 ∷ []) (λ told. Contains-push [] _) in
    subst (λ (s : FileShape). c.args.p.0 < s.pages) (sym (put.stays.shape ∙ c.in_ok-take.ensures.take.stays.shape)) c.requires.inside

pub returns-in_err-take-clause-does : goal.returns-in_err-take-clause-does
returns-in_err-take-clause-does g c = λ looked before. does_exit_as _ _ c.in_err-take.field-0.0 _ refl (does_more looked c.in_err-take.ensures.take) c.from_residual.ensures.1

pub returns-in_err-set_pfs_byte-clause-does : goal.returns-in_err-set_pfs_byte-clause-does
returns-in_err-set_pfs_byte-clause-does g c = λ looked before.
    let s1 = c.in_ok-take.ensures.take.stays in
    does_next _ (does_more looked c.in_ok-take.ensures.take)
    (does_exit_as _ _ c.in_err-set_pfs_byte.field-0.0 _ refl
    (does_plan (ap (λ (s : FileShape). put_pfs s c.args.p.0 c.args.byte) s1.shape)
    (c.in_err-set_pfs_byte.ensures looked (λ told. subst (λ (k : Geometry). Contains looked (pfs_page k c.args.p.0)) (sym c.requires.reader.geometry) (before (sym s1.told ∙ told)).pfs)))
    c.from_residual-in_err-set_pfs_byte.ensures.1)

pub returns-in_err-lower_sgam-clause-does : goal.returns-in_err-lower_sgam-clause-does
returns-in_err-lower_sgam-clause-does g c = λ looked before.
    let s1 = c.in_ok-take.ensures.take.stays in
    let put = c.in_ok-set_pfs_byte.ensures looked (λ told. subst (λ (k : Geometry). Contains looked (pfs_page k c.args.p.0)) (sym c.requires.reader.geometry) (before (sym s1.told ∙ told)).pfs) in
    let s2 = stays_then s1 put.stays in
    does_next _ (does_more looked c.in_ok-take.ensures.take)
    (does_next _ (does_plan (ap (λ (s : FileShape). put_pfs s c.args.p.0 c.args.byte) s1.shape) put)
    (does_exit_as _ _ c.in_err-lower_sgam.field-0.0 _ refl
    (does_plan (ap (λ (s : FileShape). lower_sgam s (c.args.p.0 / 8)) s2.shape) (c.in_err-lower_sgam.ensures looked (reached_later looked c.args.p.0 s2 before)))
    c.from_residual-in_err-lower_sgam.ensures.1))

pub returns-clause-does : goal.returns-clause-does
returns-clause-does g c = λ looked before.
    let s1 = c.in_ok-take.ensures.take.stays in
    let put = c.in_ok-set_pfs_byte.ensures looked (λ told. subst (λ (k : Geometry). Contains looked (pfs_page k c.args.p.0)) (sym c.requires.reader.geometry) (before (sym s1.told ∙ told)).pfs) in
    let s2 = stays_then s1 put.stays in
    does_next _ (does_more looked c.in_ok-take.ensures.take)
    (does_next _ (does_plan (ap (λ (s : FileShape). put_pfs s c.args.p.0 c.args.byte) s1.shape) put)
    (does_next _ (does_plan (ap (λ (s : FileShape). lower_sgam s (c.args.p.0 / 8)) s2.shape) (c.in_ok-lower_sgam.ensures looked (reached_later looked c.args.p.0 s2 before)))
    (does_give looked (g.P.PlanPages.state c.lower_sgam.new.v) c.args.p.0)))
