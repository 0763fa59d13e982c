use Rattle.std.proofs.Common.{◌<◌, [], get_or, sym, ap, ◌∙◌, subst}
use Rattle.spec_file.specs.declared.data.Resource.{Resource}
use Rattle.spec_words.specs.NetChanges.{FileShape}
use Rattle.spec_words.specs.Words.{for_each}
use Rattle.spec_alloc.specs.Objects.{page_dropped}
use Rattle.db_locks.specs.Does.{Does, stop_of}
use Rattle.db_locks.proofs.LoopLaws.{leads_none, each_step, each_exit, each_end}
use Rattle.db_alloc.specs.Marks.{first_slots}
use Rattle.db_alloc.specs.Tables.{numbers}
use Rattle.db_alloc.proofs.Chains.{leads_plan}
use Rattle.db_alloc.proofs.DropSteps.{leaves_of, chain_same}
use Rattle.db_alloc.proofs.FreeSteps.{in_shape}
use Rattle.db_alloc.proofs.Leaves.{leaves_all, leaves_both, dropped_leaves}
use Rattle.db_alloc.proofs.Lists.{drop_at, drop_none, all_at}
use Rattle.db_alloc.proofs.drop.drop_pages.Goals as goal

pub loop-p-init : goal.loop-p-init
loop-p-init g c =
    let a = g.P.PlanPages.state c.args.v.now in
    record {
      leads = leads_none stop_of [] a (for_each (page_dropped a.view.shape (numbers c.args.chain.now)) (numbers c.args.pages.now));
      same = λ told. leaves_all a.view.shape.geometry a.view;
    }

pub drop_page-requires : goal.drop_page-requires
drop_page-requires g c =
    let a = g.P.PlanPages.state c.args.v.now in
    let b = g.P.PlanPages.state c.loop-p.v in
    let stays = c.loop-p.invariant.leads.stays in
    let p = get_or c.args.pages.now c.loop-p.p-index (record { 0 = 0 }) in
    record {
      geometry = c.requires.geometry ∙ sym (ap (λ (s : FileShape). s.geometry) stays.shape);
      inside = subst (λ (s : FileShape). p.0 < s.pages) (sym stays.shape) (all_at (λ k. k < a.view.shape.pages) c.args.pages.now c.loop-p.p-index (record { 0 = 0 }) c.loop-p-test.true c.requires.inside);
      own = ap (λ (other : Resource → _). other c.args.own) stays.other ∙ c.requires.own;
      some = c.requires.some;
      slots = λ told.
          let begun = sym stays.told ∙ told in
          c.requires.slots begun ∙ ap first_slots (sym (chain_same a.view.shape a.view b.view (numbers c.args.chain.now) c.requires.chain (c.loop-p.invariant.same begun)));
    }

pub returns-in_err-drop_page : goal.returns-in_err-drop_page
returns-in_err-drop_page g c =
    let a = g.P.PlanPages.state c.args.v.now in
    let chain = numbers c.args.chain.now in
    let each = page_dropped a.view.shape chain in
    let p = get_or c.args.pages.now c.loop-p.p-index (record { 0 = 0 }) in
    each_exit each _ _ (leads_plan (ap (for_each each) (drop_at c.args.pages.now c.loop-p.p-index (record { 0 = 0 }) c.loop-p-test.true)) c.loop-p.invariant.leads)
    (in_shape (λ s. page_dropped s chain p.0) c.loop-p.invariant.leads.stays c.in_err-drop_page.ensures)
    c.from_residual.ensures.1

pub loop-p-preserved : goal.loop-p-preserved
loop-p-preserved g c =
    let a = g.P.PlanPages.state c.args.v.now in
    let b = g.P.PlanPages.state c.loop-p.v in
    let d = g.P.PlanPages.state c.drop_page.new.v in
    let chain = numbers c.args.chain.now in
    let each = page_dropped a.view.shape chain in
    let p = get_or c.args.pages.now c.loop-p.p-index (record { 0 = 0 }) in
    let stays = c.loop-p.invariant.leads.stays in
    let done : Does b d (page_dropped a.view.shape chain p.0) _ = in_shape (λ s. page_dropped s chain p.0) stays c.in_ok-drop_page.ensures in
    record {
      leads = each_step each _ _ (leads_plan (ap (for_each each) (drop_at c.args.pages.now c.loop-p.p-index (record { 0 = 0 }) c.loop-p-test.true)) c.loop-p.invariant.leads) done;
      same = λ told. leaves_both (c.loop-p.invariant.same told) (leaves_of a.view.shape.geometry (page_dropped a.view.shape chain p.0) (dropped_leaves a.view.shape chain p.0 b.view) done (stays.told ∙ told));
    }

pub returns : goal.returns
returns g c =
    let a = g.P.PlanPages.state c.args.v.now in
    let each = page_dropped a.view.shape (numbers c.args.chain.now) in
    each_end each (leads_plan (ap (for_each each) (drop_none c.args.pages.now c.loop-p.p-index c.loop-p-test.false)) c.loop-p.invariant.leads)
