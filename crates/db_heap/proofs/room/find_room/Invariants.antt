use Rattle.std.proofs.Common.{◌≡◌, ℕ, List, IsTrue, All, drop}
use Rattle.spec_words.specs.Words.{first_of}
use Rattle.spec_words.specs.Heaps.{room_on}
use Rattle.db_cat.specs.Rows.{row_of}
use Rattle.db_locks.specs.Does.{Stays, stop_of}
use Rattle.db_locks.proofs.LoopLaws.{Leads}
use Rattle.db_alloc.specs.Tables.{numbers}
use Rattle.db_heap.specs.Inserts.{WasByteRead}
use Rattle.db_heap.proofs.room.find_room.Given as goal

abbrev pub invariant-loop-p : goal.invariant-loop-p
invariant-loop-p g l =
    let a = g.P.PlanPages.state l.fn.v in
    let b = g.P.PlanPages.state l.v in
    let try = room_on a.view.shape (row_of l.table.row) l.size in
    record {
      leads : (looked : List ℕ) → (IsTrue a.told → All (WasByteRead looked a.view) (numbers l.pages)) → Leads stop_of looked a b (first_of try (numbers l.pages)) (first_of try (numbers (drop l.p-index l.pages)));
      view : b.view ≡ a.view;
      stays : Stays a b;
    }
