use Rattle.std.proofs.Common.{[], drop, IsTrue}
use Rattle.spec_words.specs.Words.{for_each}
use Rattle.spec_alloc.specs.Objects.{page_dropped}
use Rattle.db_locks.specs.Does.{stop_of}
use Rattle.db_locks.proofs.LoopLaws.{Leads}
use Rattle.db_alloc.specs.Drops.{LeavesPages}
use Rattle.db_alloc.specs.Tables.{numbers}
use Rattle.db_alloc.proofs.drop.drop_pages.Given as goal

abbrev pub invariant-loop-p : goal.invariant-loop-p
invariant-loop-p g l =
    let a = g.P.PlanPages.state l.fn.v in
    let b = g.P.PlanPages.state l.v in
    let each = page_dropped a.view.shape (numbers l.chain) in
    record {
      leads : Leads stop_of [] a b (for_each each (numbers l.pages)) (for_each each (numbers (drop l.p-index l.pages)));
      same : IsTrue a.told → LeavesPages a.view.shape.geometry a.view b.view;
    }
