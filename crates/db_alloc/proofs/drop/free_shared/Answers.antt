use Rattle.std.proofs.Common.{◌<◌, [], get_or, sym, ap, ◌∙◌, subst}
use Rattle.spec_file.specs.declared.data.Resource.{Resource}
use Rattle.spec_words.specs.NetChanges.{FileShape}
use Rattle.spec_words.specs.Words.{for_each}
use Rattle.spec_alloc.specs.Freeing.{shared_freed}
use Rattle.db_locks.specs.Does.{stop_of}
use Rattle.db_locks.proofs.LoopLaws.{leads_none, each_step, each_exit, each_end}
use Rattle.db_alloc.specs.Maps.{IsOwnable}
use Rattle.db_alloc.specs.Tables.{numbers}
use Rattle.db_alloc.proofs.Chains.{leads_plan}
use Rattle.db_alloc.proofs.FreeSteps.{in_shape}
use Rattle.db_alloc.proofs.Lists.{drop_at, drop_none, all_at}
use Rattle.db_alloc.proofs.drop.free_shared.Goals as goal

pub loop-p-init : goal.loop-p-init
loop-p-init g c = let a = g.P.PlanPages.state c.args.v.now in leads_none stop_of [] a (for_each (shared_freed a.view.shape) (numbers c.args.chain.now))

pub shared_freed-requires : goal.shared_freed-requires
shared_freed-requires g c =
    let a = g.P.PlanPages.state c.args.v.now in
    let stays = c.loop-p.invariant.stays in
    let p = get_or c.args.chain.now c.loop-p.p-index (record { 0 = 0 }) in
    let here = all_at (IsOwnable a.view.shape) c.args.chain.now c.loop-p.p-index (record { 0 = 0 }) c.loop-p-test.true c.requires.chain in
    record {
      geometry = c.requires.geometry ∙ sym (ap (λ (s : FileShape). s.geometry) stays.shape);
      inside = subst (λ (s : FileShape). p.0 < s.pages) (sym stays.shape) here.inside;
      own = ap (λ (other : Resource → _). other c.args.own) stays.other ∙ c.requires.own;
    }

pub returns-in_err-shared_freed : goal.returns-in_err-shared_freed
returns-in_err-shared_freed g c =
    let a = g.P.PlanPages.state c.args.v.now in
    let each = shared_freed a.view.shape in
    let p = get_or c.args.chain.now c.loop-p.p-index (record { 0 = 0 }) in
    each_exit each _ _ (leads_plan (ap (for_each each) (drop_at c.args.chain.now c.loop-p.p-index (record { 0 = 0 }) c.loop-p-test.true)) c.loop-p.invariant)
    (in_shape (λ s. shared_freed s p.0) c.loop-p.invariant.stays c.in_err-shared_freed.ensures)
    c.from_residual.ensures.1

pub loop-p-preserved : goal.loop-p-preserved
loop-p-preserved g c =
    let a = g.P.PlanPages.state c.args.v.now in
    let each = shared_freed a.view.shape in
    let p = get_or c.args.chain.now c.loop-p.p-index (record { 0 = 0 }) in
    each_step each _ _ (leads_plan (ap (for_each each) (drop_at c.args.chain.now c.loop-p.p-index (record { 0 = 0 }) c.loop-p-test.true)) c.loop-p.invariant)
    (in_shape (λ s. shared_freed s p.0) c.loop-p.invariant.stays c.in_ok-shared_freed.ensures)

pub returns : goal.returns
returns g c =
    let a = g.P.PlanPages.state c.args.v.now in
    let each = shared_freed a.view.shape in
    each_end each (leads_plan (ap (for_each each) (drop_none c.args.chain.now c.loop-p.p-index c.loop-p-test.false)) c.loop-p.invariant)
