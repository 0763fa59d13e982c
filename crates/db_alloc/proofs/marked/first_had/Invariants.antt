use Rattle.std.proofs.Common.{◌≡◌, ℕ, ◌<◌, List, Contains, IsTrue, filter, drop, true, Ok}
use Rattle.std.specs.Prelude.{◌&&◌}
use Rattle.std.specs.List.{list_any}
use Rattle.spec_file.specs.Places.{pfs_page}
use Rattle.spec_words.specs.Words.{give}
use Rattle.spec_alloc.specs.Search.{first_in, is_spare}
use Rattle.db_locks.specs.Does.{DoesAfter, Stays}
use Rattle.db_alloc.specs.Marks.{marks}
use Rattle.db_alloc.specs.Tables.{bytes_of}
use Rattle.db_alloc.proofs.marked.first_had.Given as goal

abbrev pub invariant-loop-p : goal.invariant-loop-p
invariant-loop-p g l =
    let a = g.P.PlanPages.state l.fn.v in
    let b = g.P.PlanPages.state l.v in
    record {
      does : (looked : List ℕ) → (IsTrue a.told → (p : ℕ) → p < a.view.shape.pages → list_any (marks l.geometry p) (bytes_of l.iams) ≡ true → Contains looked (pfs_page a.view.shape.geometry p)) → DoesAfter {A = Unit {0}} looked a b (give tt) (Ok tt);
      stays : Stays a b;
      first : IsTrue a.told → first_in (filter (λ p. list_any (marks l.geometry p) (bytes_of l.iams) && is_spare a.view.shape a.view p) l.near) ≡ first_in (filter (λ p. list_any (marks l.geometry p) (bytes_of l.iams) && is_spare a.view.shape a.view p) (drop l.p-index l.near));
      view : b.view ≡ a.view;
    }
