use Rattle.std.proofs.Common.{ℕ, List, ap}
use Rattle.spec_file.specs.declared.data.ExtentNo.{ExtentNo}
use Rattle.spec_words.specs.Views.{View}
use Rattle.spec_words.specs.Words.{for_each}
use Rattle.spec_alloc.specs.Objects as objects
use Rattle.db_locks.proofs.PlanLaws.{does_after, does_exit, does_more}
use Rattle.db_alloc.specs.Drops.{extents}
use Rattle.db_alloc.proofs.Steps.{does_plan}
use Rattle.db_alloc.proofs.drop.free_left.Goals as goal

pub returns-in_err-left : goal.returns-in_err-left
returns-in_err-left g c = λ looked reached.
    let a = g.P.PlanPages.state c.args.v.now in
    does_exit (λ (es : List ℕ). for_each (objects.left_freed a.view.shape) es) (c.in_err-left.ensures.does looked reached) c.from_residual.ensures.1

pub returns : goal.returns
returns g c = λ looked reached.
    let a = g.P.PlanPages.state c.args.v.now in
    does_after (λ (es : List ℕ). for_each (objects.left_freed a.view.shape) es) (c.in_ok-left.ensures.does looked reached)
    (does_more _ (does_plan (ap (λ (es : List ExtentNo). for_each (objects.left_freed a.view.shape) (extents es)) c.deref.ensures.value)
    (does_plan (ap (λ (v : View). for_each (objects.left_freed v.shape) (extents c.deref.result.now)) c.in_ok-left.ensures.view) c.free_extents.ensures)))
