use Rattle.std.proofs.Common.{ℕ, [], ◌∷◌, Contains, get_or, refl, sym, ap, ◌∙◌, subst, Bool}
use Rattle.std.specs.Prelude.{◌&&◌}
use Rattle.std.specs.List.{list_any}
use Rattle.std.proofs.lemmas.List.Elements.{Contains-push}
use Rattle.spec_file.specs.Places.{pfs_page}
use Rattle.spec_words.specs.Views.{View}
use Rattle.spec_words.specs.Words.{give}
use Rattle.spec_alloc.specs.Search.{is_spare}
use Rattle.db_locks.proofs.PlanLaws.{does_give, stays_same, stays_then}
use Rattle.db_alloc.specs.Marks.{marks}
use Rattle.db_alloc.specs.Tables.{bytes_of}
use Rattle.db_alloc.proofs.MapReads.{does_behind, behind_exit}
use Rattle.db_alloc.proofs.MarkedSteps.{here_not}
use Rattle.db_alloc.proofs.marked.first_had.Goals as goal

pub loop-p-init : goal.loop-p-init
loop-p-init g c =
    let a = g.P.PlanPages.state c.args.v.now in
    record {
      does = λ looked before. does_give looked a tt;
      stays = stays_same a;
      first = λ told. refl;
      view = refl;
    }

pub returns-in_err-can_be_had-clause-does : goal.returns-in_err-can_be_had-clause-does
returns-in_err-can_be_had-clause-does g c = λ looked before.
    let p = get_or c.args.near.now c.loop-p.p-index 0 in
    let inside = c.requires.inside c.loop-p.p-index 0 c.loop-p-test.true in
    does_behind (c.loop-p.invariant.does looked before) (behind_exit (give tt) (λ found. tt) _ (c.in_err-can_be_had.ensures.does looked (λ told marked.
    subst (λ (v : View). Contains looked (pfs_page v.shape.geometry p)) (sym c.loop-p.invariant.view) (before (sym c.loop-p.invariant.stays.told ∙ told) p inside marked))) c.from_residual.ensures.1)

pub returns-then-branch-clause-does : goal.returns-then-branch-clause-does
returns-then-branch-clause-does g c = λ looked before.
    let p = get_or c.args.near.now c.loop-p.p-index 0 in
    let inside = c.requires.inside c.loop-p.p-index 0 c.loop-p-test.true in
    does_behind (c.loop-p.invariant.does looked before) (c.in_ok-can_be_had.ensures.does looked (λ told marked.
    subst (λ (v : View). Contains looked (pfs_page v.shape.geometry p)) (sym c.loop-p.invariant.view) (before (sym c.loop-p.invariant.stays.told ∙ told) p inside marked)))

pub loop-p-preserved : goal.loop-p-preserved
loop-p-preserved g c =
    let a = g.P.PlanPages.state c.args.v.now in
    let b = g.P.PlanPages.state c.loop-p.v in
    let p = get_or c.args.near.now c.loop-p.p-index 0 in
    let inside = c.requires.inside c.loop-p.p-index 0 c.loop-p-test.true in
    let q = pfs_page b.view.shape.geometry p in
    let had : View → ℕ → Bool = λ view p. list_any (marks c.args.geometry p) (bytes_of c.args.iams.now) && is_spare view.shape view p in
    record {
      does = λ looked before. does_behind (c.loop-p.invariant.does looked before) (c.in_ok-can_be_had.ensures.does looked (λ told marked.
          subst (λ (v : View). Contains looked (pfs_page v.shape.geometry p)) (sym c.loop-p.invariant.view) (before (sym c.loop-p.invariant.stays.told ∙ told) p inside marked)));
      stays = stays_then c.loop-p.invariant.stays (c.in_ok-can_be_had.ensures.does (q ∷ []) (λ told marked. Contains-push [] q)).stays;
      first = λ told. c.loop-p.invariant.first told ∙ here_not (had a.view) c.args.near.now c.loop-p.p-index c.loop-p-test.true
          (ap (λ (v : View). had v p) (sym c.loop-p.invariant.view) ∙ sym (c.in_ok-can_be_had.ensures.had (c.loop-p.invariant.stays.told ∙ told)) ∙ c.if-branch.false);
      view = c.in_ok-can_be_had.ensures.view ∙ c.loop-p.invariant.view;
    }
