use Rattle.std.proofs.Common.{◌≡◌, ◌-◌, ◌/◌, IsTrue, []}
use Rattle.std.specs.List.{range_with_len}
use Rattle.spec_words.specs.Words.{first_of}
use Rattle.spec_alloc.specs.Search.{search, search_at}
use Rattle.db_locks.specs.Does.{stop_of}
use Rattle.db_locks.proofs.LoopLaws.{Leads}
use Rattle.db_alloc.specs.Searches.{fits_of, find_of, AreRead}
use Rattle.db_alloc.proofs.search.search.Given as goal

abbrev pub invariant-loop-e : goal.invariant-loop-e
invariant-loop-e g l =
    let a = g.P.PlanPages.state l.fn.v in
    let b = g.P.PlanPages.state l.v in
    let fits = fits_of l.wanted a.view.shape in
    let find = find_of l.wanted a.view.shape in
    record {
      leads : Leads stop_of [] a b (search a.view.shape fits find) (first_of (search_at a.view.shape fits find) (range_with_len l.e (a.view.shape.pages / 8 - l.e)));
      told : IsTrue a.told → AreRead a.view l.maps;
      view : b.view ≡ a.view;
    }
