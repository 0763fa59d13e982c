use Rattle.std.proofs.Common.{◌≡◌, ◌||◌, ◌<◌, ◌≤◌, All, length, IsTrue, [], filter, take, drop}
use Rattle.spec_chain.specs.Uses.{is_allocated}
use Rattle.spec_words.specs.Words.{for_each}
use Rattle.spec_words.specs.Tables.{bytes_read}
use Rattle.db_locks.specs.Does.{stop_of}
use Rattle.db_locks.proofs.LoopLaws.{Leads}
use Rattle.db_alloc.specs.Marks.{is_in_slot}
use Rattle.db_alloc.specs.Tables.{numbers, byte_looked}
use Rattle.db_alloc.proofs.pages.read_pages.Given as goal

abbrev pub invariant-loop-p : goal.invariant-loop-p
invariant-loop-p g l =
    let a = g.P.PlanPages.state l.fn.v in
    let b = g.P.PlanPages.state l.v in
    record {
      leads : Leads stop_of [] a b (bytes_read a.view.shape (numbers l.pages)) (for_each (byte_looked a.view.shape) (numbers (drop l.p-index l.pages)));
      told : IsTrue a.told → numbers l.found.items ≡ filter (λ p. is_in_slot (numbers l.slots) p || is_allocated a.view.shape.geometry a.view.now p) (numbers (take l.p-index l.pages));
      inside : All (λ p. p < l.table.pages) (numbers l.found.items);
      few : length l.found.items ≤ l.p-index;
      view : b.view ≡ a.view;
    }
