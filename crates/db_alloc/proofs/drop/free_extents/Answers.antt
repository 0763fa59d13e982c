use Rattle.std.proofs.Common.{◌/◌, ◌<◌, [], get_or, sym, ap, ◌∙◌, subst}
use Rattle.spec_file.specs.declared.data.Resource.{Resource}
use Rattle.spec_words.specs.NetChanges.{FileShape}
use Rattle.spec_words.specs.Words.{for_each}
use Rattle.spec_alloc.specs.Objects.{left_freed}
use Rattle.db_locks.specs.Does.{stop_of}
use Rattle.db_locks.proofs.LoopLaws.{leads_none, each_step, each_exit, each_end}
use Rattle.db_alloc.specs.Drops.{extents}
use Rattle.db_alloc.proofs.Chains.{leads_plan}
use Rattle.db_alloc.proofs.DropSteps.{extents_step, extents_end, extent_at}
use Rattle.db_alloc.proofs.FreeSteps.{in_shape}
use Rattle.db_alloc.proofs.drop.free_extents.Goals as goal

pub loop-e-init : goal.loop-e-init
loop-e-init g c = let a = g.P.PlanPages.state c.args.v.now in leads_none stop_of [] a (for_each (left_freed a.view.shape) (extents c.args.left.now))

pub left_freed-requires : goal.left_freed-requires
left_freed-requires g c =
    let a = g.P.PlanPages.state c.args.v.now in
    let stays = c.loop-e.invariant.stays in
    let e = get_or c.args.left.now c.loop-e.e-index (record { 0 = 0 }) in
    record {
      geometry = c.requires.geometry ∙ sym (ap (λ (s : FileShape). s.geometry) stays.shape);
      inside = subst (λ (s : FileShape). e.0 < s.pages / 8) (sym stays.shape) (extent_at (λ k. k < a.view.shape.pages / 8) c.args.left.now c.loop-e.e-index (record { 0 = 0 }) c.loop-e-test.true c.requires.inside);
      own = ap (λ (other : Resource → _). other c.args.own) stays.other ∙ c.requires.own;
    }

pub returns-in_err-left_freed : goal.returns-in_err-left_freed
returns-in_err-left_freed g c =
    let a = g.P.PlanPages.state c.args.v.now in
    let each = left_freed a.view.shape in
    let e = get_or c.args.left.now c.loop-e.e-index (record { 0 = 0 }) in
    each_exit each _ _ (leads_plan (ap (for_each each) (extents_step c.args.left.now c.loop-e.e-index (record { 0 = 0 }) c.loop-e-test.true)) c.loop-e.invariant)
    (in_shape (λ s. left_freed s e.0) c.loop-e.invariant.stays c.in_err-left_freed.ensures)
    c.from_residual.ensures.1

pub loop-e-preserved : goal.loop-e-preserved
loop-e-preserved g c =
    let a = g.P.PlanPages.state c.args.v.now in
    let each = left_freed a.view.shape in
    let e = get_or c.args.left.now c.loop-e.e-index (record { 0 = 0 }) in
    each_step each _ _ (leads_plan (ap (for_each each) (extents_step c.args.left.now c.loop-e.e-index (record { 0 = 0 }) c.loop-e-test.true)) c.loop-e.invariant)
    (in_shape (λ s. left_freed s e.0) c.loop-e.invariant.stays c.in_ok-left_freed.ensures)

pub returns : goal.returns
returns g c =
    let a = g.P.PlanPages.state c.args.v.now in
    let each = left_freed a.view.shape in
    each_end each (leads_plan (ap (for_each each) (extents_end c.args.left.now c.loop-e.e-index c.loop-e-test.false)) c.loop-e.invariant)
