use Rattle.std.proofs.Common.{◌≡◌, ◌+◌, ◌-◌, ◌*◌, IsTrue, filter}
use Rattle.std.specs.List.{range_with_len}
use Rattle.spec_alloc.specs.Search.{first_in, is_spare}
use Rattle.spec_alloc.specs.SinglePages.{spare_page}
use Rattle.db_alloc.proofs.maps.spare_page.Given as goal

abbrev pub invariant-loop-i : goal.invariant-loop-i
invariant-loop-i g l =
    let a = g.P.PlanPages.state l.v in
    IsTrue a.told → spare_page a.view.shape a.view l.e.0 ≡ first_in (filter (is_spare a.view.shape a.view) (range_with_len (8 * l.e.0 + l.i) (8 - l.i)))
