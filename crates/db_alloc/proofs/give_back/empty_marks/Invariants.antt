use Rattle.std.proofs.Common.{ℕ, ◌/◌, List, IsTrue, Contains, All}
use Rattle.spec_words.specs.Words.{for_each}
use Rattle.spec_alloc.specs.Chains.{put_mark}
use Rattle.db_locks.specs.Does.{Stays, stop_of}
use Rattle.db_locks.proofs.LoopLaws.{Leads}
use Rattle.db_alloc.specs.Maps.{IsOwnable}
use Rattle.db_alloc.specs.Tables.{numbers}
use Rattle.db_alloc.proofs.GiveBackSteps.{marking}
use Rattle.db_alloc.proofs.give_back.empty_marks.Given as goal

abbrev pub invariant-loop-q : goal.invariant-loop-q
invariant-loop-q g l =
    let a = g.P.PlanPages.state l.fn.v in
    let b = g.P.PlanPages.state l.v in
    let each = put_mark a.view.shape (l.p.0 / 8) 0 in
    let rest = l.q-iterator.a.rest.now in
    record {
      can : (goal.iterator-loop-q g).can_next l.q-iterator;
      finite : (goal.iterator-loop-q g).is_finite l.q-iterator;
      stays : Stays a b;
      ownable : All (IsOwnable a.view.shape) (numbers rest);
      within : (q : ℕ) → Contains (numbers rest) q → Contains (numbers l.fn.chain) q;
      leads : (looked : List ℕ) → (IsTrue a.told → (q : ℕ) → Contains (numbers l.fn.chain) q → Contains looked q)
          → Leads stop_of looked a b (for_each each (marking l.geometry l.p.0 l.fn.chain l.fn.iams)) (for_each each (marking l.geometry l.p.0 rest l.q-iterator.b.rest.now));
    }
