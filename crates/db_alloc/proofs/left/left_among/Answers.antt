use Rattle.std.proofs.Common.{ℕ, ◌+◌, ◌*◌, ◌/◌, ◌<◌, List, [], ◌∷◌, ◌++◌, All, Contains, Bool, not, get_or, take, sym, ap, ◌∙◌, refl, subst, arith, if◌then◌else◌}
use Rattle.std.specs.Prelude.{◌&&◌, Box}
use Rattle.std.specs.Global.{Global}
use Rattle.std.specs.List.{list_any}
use Rattle.std.proofs.lemmas.Bool.{and_parts}
use Rattle.std.proofs.lemmas.List.Elements.{Contains-push, All-nil}
use Rattle.pg_base.specs.declared.page.Page.{Page}
use Rattle.spec_file.specs.declared.data.ExtentNo.{ExtentNo}
use Rattle.spec_file.specs.Places.{pfs_page}
use Rattle.spec_words.specs.Views.{View}
use Rattle.spec_alloc.specs.Freeing.{is_in_use}
use Rattle.spec_alloc.specs.Objects as objects
use Rattle.db_locks.proofs.PlanLaws.{stays_same, stays_then, does_give, does_see}
use Rattle.db_alloc.specs.Drops.{extents}
use Rattle.db_alloc.specs.Marks.{marks}
use Rattle.db_alloc.specs.Tables.{numbers, bytes_of}
use Rattle.db_alloc.proofs.DropSteps.{left_as, left_unseen, reach_at, extent_at}
use Rattle.db_alloc.proofs.NearExtents.{extents_more, left_near}
use Rattle.db_alloc.proofs.Lists.{filter_more}
use Rattle.db_alloc.proofs.MapReads.{does_behind}
use Rattle.db_alloc.proofs.left.left_among.Goals as goal

pub loop-e-init : goal.loop-e-init
loop-e-init g c =
    let a = g.P.PlanPages.state c.args.v.now in
    record {
      does = λ looked reached. does_give looked a tt;
      stays = stays_same a;
      left = λ told. ap extents c.new-left.ensures.items;
      inside = subst (λ (items : List ExtentNo). All (λ e. e < c.args.table.now.pages / 8) (extents items)) (sym c.new-left.ensures.items) (All-nil (λ e. e < c.args.table.now.pages / 8));
      view = refl;
    }

pub returns-in_err-add_left-clause-does : goal.returns-in_err-add_left-clause-does
returns-in_err-add_left-clause-does g c = λ looked reached.
    let a = g.P.PlanPages.state c.args.v.now in
    let chain = numbers c.args.chain.now.numbers.items in
    let e = get_or c.args.near.now c.loop-e.e-index (record { 0 = 0 }) in
    let count = c.requires.pages in
    let inside = extent_at (λ k. k < c.args.table.now.pages / 8) c.args.near.now c.loop-e.e-index (record { 0 = 0 }) c.loop-e-test.true c.requires.near.inside in
    does_behind (c.loop-e.invariant.does looked reached)
    (left_unseen looked (objects.left_extents a.view.shape chain) _ _ (c.in_err-add_left.ensures.does looked (λ told marked.
    let begun = sym c.loop-e.invariant.stays.told ∙ told in
    subst (λ (v : View). Contains looked (pfs_page v.shape.geometry (8 * e.0))) (sym c.loop-e.invariant.view)
    (reach_at looked a.view chain _ c.args.table.now.geometry e.0 (reached begun) (ap (λ (ps : List (Box Page Global)). bytes_of ps) c.deref.ensures.value ∙ c.requires.chain begun) c.requires.geometry (omega (arith, inside, count)) marked))) c.from_residual.ensures.1)

pub add_left-requires-clause-inside : goal.add_left-requires-clause-inside
add_left-requires-clause-inside g c =
    let inside = extent_at (λ k. k < c.args.table.now.pages / 8) c.args.near.now c.loop-e.e-index (record { 0 = 0 }) c.loop-e-test.true c.requires.near.inside in
    let count = c.requires.pages in
    subst (λ (v : View). (get_or c.args.near.now c.loop-e.e-index (record { 0 = 0 })).0 < v.shape.pages / 8) (sym c.loop-e.invariant.view) (omega (arith, inside, count))

pub loop-e-preserved : goal.loop-e-preserved
loop-e-preserved g c =
    let a = g.P.PlanPages.state c.args.v.now in
    let b = g.P.PlanPages.state c.loop-e.v in
    let chain = numbers c.args.chain.now.numbers.items in
    let e = get_or c.args.near.now c.loop-e.e-index (record { 0 = 0 }) in
    let count = c.requires.pages in
    let inside = extent_at (λ k. k < c.args.table.now.pages / 8) c.args.near.now c.loop-e.e-index (record { 0 = 0 }) c.loop-e-test.true c.requires.near.inside in
    let q = pfs_page b.view.shape.geometry (8 * e.0) in
    let same = ap (λ (ps : List (Box Page Global)). bytes_of ps) c.deref.ensures.value in
    let holds : ℕ → Bool = λ k. list_any (marks c.args.table.now.geometry (8 * k)) (bytes_of c.args.chain.now.pages.items) && not (is_in_use a.view.shape k a.view) in
    record {
      does = λ looked reached. does_behind (c.loop-e.invariant.does looked reached) (c.in_ok-add_left.ensures.does looked (λ told marked.
          let begun = sym c.loop-e.invariant.stays.told ∙ told in
          subst (λ (v : View). Contains looked (pfs_page v.shape.geometry (8 * e.0))) (sym c.loop-e.invariant.view)
          (reach_at looked a.view chain _ c.args.table.now.geometry e.0 (reached begun) (same ∙ c.requires.chain begun) c.requires.geometry (omega (arith, inside, count)) marked)));
      stays = stays_then c.loop-e.invariant.stays (c.in_ok-add_left.ensures.does (q ∷ []) (λ _ _. Contains-push [] q)).stays;
      left = λ told. filter_more holds (extents (take c.loop-e.e-index c.args.near.now)) (extents (take (c.loop-e.e-index + 1) c.args.near.now)) e.0 (holds e.0) _ _
          (extents_more c.args.near.now c.loop-e.e-index (record { 0 = 0 }) c.loop-e-test.true) refl (c.loop-e.invariant.left told)
          (c.in_ok-add_left.ensures.left (c.loop-e.invariant.stays.told ∙ told)
          ∙ ap (λ (ps : List (Box Page Global)). extents c.loop-e.left.items ++ (if list_any (marks c.args.table.now.geometry (8 * e.0)) (bytes_of ps) && not (is_in_use b.view.shape e.0 b.view) then e.0 ∷ [] else [])) c.deref.ensures.value
          ∙ ap (λ (v : View). extents c.loop-e.left.items ++ (if list_any (marks c.args.table.now.geometry (8 * e.0)) (bytes_of c.args.chain.now.pages.items) && not (is_in_use v.shape e.0 v) then e.0 ∷ [] else [])) c.loop-e.invariant.view);
      inside = c.in_ok-add_left.ensures.inside (c.args.table.now.pages / 8) inside c.loop-e.invariant.inside;
      view = c.in_ok-add_left.ensures.view ∙ c.loop-e.invariant.view;
    }

pub returns-clause-does : goal.returns-clause-does
returns-clause-does g c = λ looked reached.
    let a = g.P.PlanPages.state c.args.v.now in
    let b = g.P.PlanPages.state c.loop-e.v in
    let chain = numbers c.args.chain.now.numbers.items in
    let count = c.requires.pages in
    let holds : ℕ → Bool = λ k. list_any (marks c.args.table.now.geometry (8 * k)) (bytes_of c.args.chain.now.pages.items) && not (is_in_use a.view.shape k a.view) in
    does_behind (c.loop-e.invariant.does looked reached) (does_see looked b (objects.left_extents a.view.shape chain) (extents c.loop-e.left.items) (λ told.
    let begun = sym c.loop-e.invariant.stays.told ∙ told in
    left_as a.view.shape a.view chain (bytes_of c.args.chain.now.pages.items) c.args.table.now.geometry (c.args.table.now.pages / 8) (extents c.loop-e.left.items) (c.requires.chain begun) c.requires.geometry (ap (λ (n : ℕ). n / 8) count)
    (c.loop-e.invariant.left begun ∙ left_near (c.args.table.now.pages / 8) _ holds c.args.near.now c.loop-e.e-index c.loop-e-test.false (λ k yes. (and_parts (list_any (marks c.args.table.now.geometry (8 * k)) (bytes_of c.args.chain.now.pages.items)) _ yes).0) c.requires.near)
    ∙ ap (objects.left_extents a.view.shape chain) (sym c.loop-e.invariant.view)))
