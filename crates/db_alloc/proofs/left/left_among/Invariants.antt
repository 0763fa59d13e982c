use Rattle.std.proofs.Common.{◌≡◌, ℕ, ◌*◌, ◌/◌, ◌<◌, List, All, IsTrue, not, filter, take}
use Rattle.std.specs.Prelude.{◌&&◌, Ok}
use Rattle.std.specs.List.{list_any}
use Rattle.spec_words.specs.Words.{give}
use Rattle.spec_alloc.specs.Freeing.{is_in_use}
use Rattle.db_locks.specs.Does.{DoesAfter, Stays}
use Rattle.db_alloc.specs.Drops.{HasReached, extents}
use Rattle.db_alloc.specs.Marks.{marks}
use Rattle.db_alloc.specs.Tables.{numbers, bytes_of}
use Rattle.db_alloc.proofs.left.left_among.Given as goal

abbrev pub invariant-loop-e : goal.invariant-loop-e
invariant-loop-e g l =
    let a = g.P.PlanPages.state l.fn.v in
    let b = g.P.PlanPages.state l.v in
    record {
      does : (looked : List ℕ) → (IsTrue a.told → HasReached looked a.view (numbers l.chain.numbers.items)) → DoesAfter {A = Unit {0}} looked a b (give tt) (Ok tt);
      stays : Stays a b;
      left : IsTrue a.told → extents l.left.items ≡ filter (λ e. list_any (marks l.table.geometry (8 * e)) (bytes_of l.chain.pages.items) && not (is_in_use a.view.shape e a.view)) (extents (take l.e-index l.near));
      inside : All (λ e. e < l.table.pages / 8) (extents l.left.items);
      view : b.view ≡ a.view;
    }
