use Rattle.std.proofs.Common.{◌*◌, [], ◌∷◌, sym, ap, ◌∙◌, subst}
use Rattle.std.proofs.lemmas.List.Elements.{Contains-push}
use Rattle.spec_file.specs.Places.{pfs_page}
use Rattle.spec_words.specs.Views.{View}
use Rattle.spec_alloc.specs.Freeing.{is_in_use}
use Rattle.db_alloc.specs.Maps.{MapTells}
use Rattle.db_alloc.proofs.FreeSteps.{use_seen, use_unseen}
use Rattle.db_alloc.proofs.free.check_in_use.Goals as goal

pub returns-in_err-reread_pfs-clause-does : goal.returns-in_err-reread_pfs-clause-does
returns-in_err-reread_pfs-clause-does g c = λ looked before. use_unseen looked c.args.e.0 (c.in_err-reread_pfs.ensures.does looked before) c.from_residual.ensures.1

pub is_in_use-requires-clause-read : goal.is_in_use-requires-clause-read
is_in_use-requires-clause-read g c = λ told.
    let a = g.P.PlanPages.state c.args.v.now in
    let q = pfs_page a.view.shape.geometry (8 * c.args.e.0) in
    let stays = (c.in_ok-reread_pfs.ensures.does (q ∷ []) (λ _. Contains-push [] q)).stays in
    subst (λ (w : View). MapTells w (pfs_page w.shape.geometry (8 * c.args.e.0)) c.reread_pfs.new.into.bytes) (sym c.in_ok-reread_pfs.ensures.view) (c.in_ok-reread_pfs.ensures.told (sym stays.told ∙ told))

pub returns-clause-does : goal.returns-clause-does
returns-clause-does g c = λ looked before.
    let a = g.P.PlanPages.state c.args.v.now in
    let b = g.P.PlanPages.state c.reread_pfs.new.v in
    use_seen looked c.args.e.0 c.is_in_use.result (c.in_ok-reread_pfs.ensures.does looked before)
    (λ told. c.is_in_use.ensures told ∙ ap (λ (w : View). is_in_use w.shape c.args.e.0 b.view) c.in_ok-reread_pfs.ensures.view)
