use Rattle.std.proofs.Common.{◌*◌, [], ◌∷◌, IsTrue, not, sym, ap, ◌∙◌, subst}
use Rattle.std.proofs.lemmas.List.Elements.{Contains-push}
use Rattle.std.specs.List.{list_any}
use Rattle.spec_file.specs.Places.{pfs_page}
use Rattle.spec_words.specs.Views.{View}
use Rattle.spec_words.specs.Words.{give}
use Rattle.spec_alloc.specs.Freeing.{is_in_use}
use Rattle.db_locks.proofs.PlanLaws.{does_give, does_exit}
use Rattle.db_alloc.specs.Drops.{extents}
use Rattle.db_alloc.specs.Maps.{MapTells}
use Rattle.db_alloc.specs.Marks.{marks}
use Rattle.db_alloc.specs.Tables.{bytes_of}
use Rattle.db_alloc.proofs.DropSteps.{short_or, pushed_left, pushed_low, both_hold}
use Rattle.db_alloc.proofs.Steps.{does_plan, give_then}
use Rattle.db_alloc.proofs.left.add_left.Goals as goal

pub returns-then-not-is_marked-clause-does : goal.returns-then-not-is_marked-clause-does
returns-then-not-is_marked-clause-does g c = λ looked before. does_give looked (g.P.PlanPages.state c.args.v.now) tt

pub returns-in_err-reread_pfs-clause-does : goal.returns-in_err-reread_pfs-clause-does
returns-in_err-reread_pfs-clause-does g c = λ looked before.
    does_plan (give_then {A = Unit {0}} tt (λ _. give tt))
    (does_exit (λ _. give tt) (c.in_err-reread_pfs.ensures.does looked (λ told. before told (sym c.is_marked.ensures ∙ c.if-not-is_marked.false))) c.from_residual.ensures.1)

pub is_in_use-yes-requires-clause-read : goal.is_in_use-yes-requires-clause-read
is_in_use-yes-requires-clause-read g c = λ told.
    let a = g.P.PlanPages.state c.args.v.now in
    let q = pfs_page a.view.shape.geometry (8 * c.args.e.0) in
    let stays = (c.in_ok-reread_pfs.ensures.does (q ∷ []) (λ _. Contains-push [] q)).stays in
    subst (λ (w : View). MapTells w (pfs_page w.shape.geometry (8 * c.args.e.0)) c.reread_pfs.new.into.bytes) (sym c.in_ok-reread_pfs.ensures.view) (c.in_ok-reread_pfs.ensures.told (sym stays.told ∙ told))

pub returns-clause-does : goal.returns-clause-does
returns-clause-does g c = λ looked before.
    short_or looked c.push_extent.result c.push_extent.ensures.short (c.in_ok-reread_pfs.ensures.does looked (λ told. before told (sym c.is_marked.ensures ∙ c.if-not-is_marked.false)))

pub returns-clause-left : goal.returns-clause-left
returns-clause-left g c =
    let a = g.P.PlanPages.state c.args.v.now in
    let q = pfs_page a.view.shape.geometry (8 * c.args.e.0) in
    let stays = (c.in_ok-reread_pfs.ensures.does (q ∷ []) (λ _. Contains-push [] q)).stays in
    pushed_left c.push_extent.result (extents c.args.left.now.items) _ c.args.e.0 (not c.is_in_use-yes.result) _ c.push_extent.ensures.extents (λ (told : IsTrue a.told).
    both_hold (not c.is_in_use-yes.result) (list_any (marks c.args.geometry (8 * c.args.e.0)) (bytes_of c.args.iams.now)) (is_in_use a.view.shape c.args.e.0 a.view)
    (ap not (c.is_in_use-yes.ensures (stays.told ∙ told) ∙ ap (λ (w : View). is_in_use w.shape c.args.e.0 w) c.in_ok-reread_pfs.ensures.view))
    (sym c.is_marked.ensures ∙ c.if-not-is_marked.false))

pub returns-clause-inside : goal.returns-clause-inside
returns-clause-inside g c = pushed_low c.push_extent.result (extents c.args.left.now.items) _ c.args.e.0 (not c.is_in_use-yes.result) c.push_extent.ensures.extents
