use Rattle.std.proofs.Common.{◌≡◌, ◌/◌, List, [], ◌∷◌, Contains, All, Box, Iter, inl, inr, ap, sym, ◌∙◌, subst}
use Rattle.std.specs.Global.{Global}
use Rattle.std.specs.declared.iter.Zip.{Zip}
use Rattle.std.proofs.lemmas.List.Elements.{Contains-push}
use Rattle.pg_base.specs.declared.page.Page.{Page}
use Rattle.spec_file.specs.declared.data.PageNo.{PageNo}
use Rattle.spec_words.specs.NetChanges.{FileShape}
use Rattle.spec_words.specs.Words.{for_each}
use Rattle.spec_alloc.specs.Chains.{put_mark}
use Rattle.db_locks.specs.Does.{stop_of}
use Rattle.db_locks.proofs.PlanLaws.{stays_same, stays_then}
use Rattle.db_locks.proofs.LoopLaws.{leads_none, each_step, each_exit, each_end}
use Rattle.db_alloc.specs.Maps.{IsOwnable}
use Rattle.db_alloc.specs.Marks.{marks}
use Rattle.db_alloc.specs.Tables.{numbers}
use Rattle.db_alloc.proofs.Chains.{leads_plan}
use Rattle.db_alloc.proofs.FreeSteps.{in_shape}
use Rattle.db_alloc.proofs.GiveBackSteps.{marking, marking_hit, marking_miss, marking_first, marking_second, marks_out, all_first, all_rest, first_there, rest_there}
use Rattle.db_alloc.proofs.give_back.empty_marks.Goals as goal

pub loop-q-init : goal.loop-q-init
loop-q-init g c =
    let a = g.P.PlanPages.state c.args.v.now in
    let g' = c.args.geometry in
    let p = c.args.p.0 in
    let each = put_mark a.view.shape (p / 8) 0 in
    let given : c.into_iter-q-iterator.result ≡ c.zip-q-items.result = c.into_iter-q-iterator.ensures.into_iter_gives in
    let first : c.into_iter-q-iterator.result.a.rest.now ≡ c.args.chain.now = ap (λ (z : Zip (Iter PageNo) (Iter (Box Page Global))). z.a.rest.now) given ∙ ap (λ (i : Iter PageNo). i.rest.now) c.zip-q-items.ensures.first ∙ c.iter.ensures.rest in
    let others : c.into_iter-q-iterator.result.b.rest.now ≡ c.args.iams.now = ap (λ (z : Zip (Iter PageNo) (Iter (Box Page Global))). z.b.rest.now) given ∙ c.zip-q-items.ensures.second.0 in
    record {
      can = (tt, tt);
      finite = tt;
      stays = stays_same a;
      ownable = subst (λ (qs : List PageNo). All (IsOwnable a.view.shape) (numbers qs)) (sym first) c.requires.chain;
      within = λ q h. subst (λ (qs : List PageNo). Contains (numbers qs) q) first h;
      leads = λ looked before. leads_plan
          (ap (λ (qs : List PageNo). for_each each (marking g' p qs c.args.iams.now)) (sym first)
          ∙ ap (λ (iams : List (Box Page Global)). for_each each (marking g' p c.into_iter-q-iterator.result.a.rest.now iams)) (sym others))
          (leads_none stop_of looked a (for_each each (marking g' p c.args.chain.now c.args.iams.now)));
    }

pub put_mark-requires-clause-geometry : goal.put_mark-requires-clause-geometry
put_mark-requires-clause-geometry g c = c.requires.geometry ∙ sym (ap (λ (s : FileShape). s.geometry) c.loop-q.invariant.stays.shape)

pub put_mark-requires-clause-ownable : goal.put_mark-requires-clause-ownable
put_mark-requires-clause-ownable g c =
    let a = g.P.PlanPages.state c.args.v.now in
    let q = c.in-Some.q.now in
    subst (λ (s : FileShape). IsOwnable s q.0) (sym c.loop-q.invariant.stays.shape)
    (all_first (IsOwnable a.view.shape) c.loop-q.q-iterator.a.rest.now _ q c.in-Some.ensures.steps.0 c.loop-q.invariant.ownable)

pub returns-in_err-put_mark : goal.returns-in_err-put_mark
returns-in_err-put_mark g c = λ looked before.
    let a = g.P.PlanPages.state c.args.v.now in
    let e = c.args.p.0 / 8 in
    let each = put_mark a.view.shape e 0 in
    let q = c.in-Some.q.now in
    let stays = c.loop-q.invariant.stays in
    let steps = c.in-Some.ensures.steps in
    let here = c.loop-q.invariant.within q.0 (first_there c.loop-q.q-iterator.a.rest.now _ q steps.0) in
    let hit = marking_hit c.args.geometry c.args.p.0 _ _ _ _ q c.in-Some.iam.now steps.0 steps.1 (ap (λ (page : Page). marks c.args.geometry c.args.p.0 page.bytes) (sym c.deref.ensures) ∙ sym c.marks.ensures ∙ c.if-marks.true) in
    marks_out looked c.args.geometry c.args.chain.now c.args.iams.now c.args.p.0 c.requires.geometry c.requires.read
    (each_exit each _ _ (leads_plan (ap (for_each each) hit) (c.loop-q.invariant.leads looked before))
    (in_shape (λ s. put_mark s e 0 q.0) stays (c.in_err-put_mark.ensures looked (λ told. before (sym stays.told ∙ told) q.0 here)))
    c.from_residual.ensures.1)

pub loop-q-preserved : goal.loop-q-preserved
loop-q-preserved g c =
    let a = g.P.PlanPages.state c.args.v.now in
    let each = put_mark a.view.shape (c.args.p.0 / 8) 0 in
    let q = c.in-Some.q.now in
    let steps = c.in-Some.ensures.steps in
    let miss = marking_miss c.args.geometry c.args.p.0 _ _ _ _ q c.in-Some.iam.now steps.0 steps.1 (ap (λ (page : Page). marks c.args.geometry c.args.p.0 page.bytes) (sym c.deref.ensures) ∙ sym c.marks.ensures ∙ c.if-marks.false) in
    record {
      can = (tt, tt);
      finite = tt;
      stays = c.loop-q.invariant.stays;
      ownable = all_rest (IsOwnable a.view.shape) _ _ q steps.0 c.loop-q.invariant.ownable;
      within = λ r h. c.loop-q.invariant.within r (rest_there _ _ q r steps.0 h);
      leads = λ looked before. leads_plan (ap (for_each each) miss) (c.loop-q.invariant.leads looked before);
    }

pub loop-q-preserved-in-Continue-1 : goal.loop-q-preserved-in-Continue-1
loop-q-preserved-in-Continue-1 g c =
    let a = g.P.PlanPages.state c.args.v.now in
    let e = c.args.p.0 / 8 in
    let each = put_mark a.view.shape e 0 in
    let q = c.in-Some.q.now in
    let stays = c.loop-q.invariant.stays in
    let steps = c.in-Some.ensures.steps in
    let here = c.loop-q.invariant.within q.0 (first_there c.loop-q.q-iterator.a.rest.now _ q steps.0) in
    let hit = marking_hit c.args.geometry c.args.p.0 _ _ _ _ q c.in-Some.iam.now steps.0 steps.1 (ap (λ (page : Page). marks c.args.geometry c.args.p.0 page.bytes) (sym c.deref.ensures) ∙ sym c.marks.ensures ∙ c.if-marks.true) in
    record {
      can = (tt, tt);
      finite = tt;
      stays = stays_then stays (c.in_ok-put_mark.ensures (q.0 ∷ []) (λ told. Contains-push [] q.0)).stays;
      ownable = all_rest (IsOwnable a.view.shape) _ _ q steps.0 c.loop-q.invariant.ownable;
      within = λ r h. c.loop-q.invariant.within r (rest_there _ _ q r steps.0 h);
      leads = λ looked before. each_step each _ _ (leads_plan (ap (for_each each) hit) (c.loop-q.invariant.leads looked before))
          (in_shape (λ s. put_mark s e 0 q.0) stays (c.in_ok-put_mark.ensures looked (λ told. before (sym stays.told ∙ told) q.0 here)));
    }

pub returns : goal.returns
returns g c = λ looked before.
    let a = g.P.PlanPages.state c.args.v.now in
    let each = put_mark a.view.shape (c.args.p.0 / 8) 0 in
    marks_out looked c.args.geometry c.args.chain.now c.args.iams.now c.args.p.0 c.requires.geometry c.requires.read
    (each_end each (leads_plan (ap (for_each each) (elim c.in-None.ensures.steps [
      | inl e ↦ marking_first c.args.geometry c.args.p.0 c.loop-q.q-iterator.a.rest.now c.loop-q.q-iterator.b.rest.now e.1.0
      | inr e ↦ marking_second c.args.geometry c.args.p.0 c.loop-q.q-iterator.a.rest.now c.loop-q.q-iterator.b.rest.now e.1.0
    ])) (c.loop-q.invariant.leads looked before)))
