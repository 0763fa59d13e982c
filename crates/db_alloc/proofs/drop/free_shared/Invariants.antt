use Rattle.std.proofs.Common.{[], drop}
use Rattle.spec_words.specs.Words.{for_each}
use Rattle.spec_alloc.specs.Freeing.{shared_freed}
use Rattle.db_locks.specs.Does.{stop_of}
use Rattle.db_locks.proofs.LoopLaws.{Leads}
use Rattle.db_alloc.specs.Tables.{numbers}
use Rattle.db_alloc.proofs.drop.free_shared.Given as goal

abbrev pub invariant-loop-p : goal.invariant-loop-p
invariant-loop-p g l =
    let a = g.P.PlanPages.state l.fn.v in
    let b = g.P.PlanPages.state l.v in
    let each = shared_freed a.view.shape in
    Leads stop_of [] a b (for_each each (numbers l.chain)) (for_each each (numbers (drop l.p-index l.chain)))
