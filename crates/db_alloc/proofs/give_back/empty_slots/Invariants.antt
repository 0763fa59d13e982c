use Rattle.std.proofs.Common.{ℕ, List, IsTrue, Contains}
use Rattle.spec_plan.specs.Reading.{first_page}
use Rattle.spec_words.specs.Words.{for_each}
use Rattle.spec_alloc.specs.Chains.{put_slot}
use Rattle.db_locks.specs.Does.{Stays, stop_of}
use Rattle.db_locks.proofs.LoopLaws.{Leads}
use Rattle.db_alloc.specs.Tables.{numbers}
use Rattle.db_alloc.proofs.GiveBackSteps.{held_from}
use Rattle.db_alloc.proofs.give_back.empty_slots.Given as goal

abbrev pub invariant-loop-i : goal.invariant-loop-i
invariant-loop-i g l =
    let a = g.P.PlanPages.state l.fn.v in
    let b = g.P.PlanPages.state l.v in
    let each = put_slot (numbers l.chain) 0 in
    record {
      stays : Stays a b;
      leads : (looked : List ℕ) → (IsTrue a.told → Contains looked (first_page (numbers l.chain)))
          → Leads stop_of looked a b (for_each each (held_from l.slots l.p.0 0)) (for_each each (held_from l.slots l.p.0 l.i));
    }
