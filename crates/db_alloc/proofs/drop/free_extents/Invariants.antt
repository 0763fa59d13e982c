use Rattle.std.proofs.Common.{[], drop}
use Rattle.spec_words.specs.Words.{for_each}
use Rattle.spec_alloc.specs.Objects.{left_freed}
use Rattle.db_locks.specs.Does.{stop_of}
use Rattle.db_locks.proofs.LoopLaws.{Leads}
use Rattle.db_alloc.specs.Drops.{extents}
use Rattle.db_alloc.proofs.drop.free_extents.Given as goal

abbrev pub invariant-loop-e : goal.invariant-loop-e
invariant-loop-e g l =
    let a = g.P.PlanPages.state l.fn.v in
    let b = g.P.PlanPages.state l.v in
    let each = left_freed a.view.shape in
    Leads stop_of [] a b (for_each each (extents l.left)) (for_each each (extents (drop l.e-index l.left)))
