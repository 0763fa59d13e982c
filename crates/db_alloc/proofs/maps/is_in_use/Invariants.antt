use Rattle.std.proofs.Common.{◌≡◌, ◌+◌, ◌-◌, ◌*◌, IsTrue}
use Rattle.std.specs.List.{list_any, range_with_len}
use Rattle.spec_alloc.specs.Search.{counts_as_allocated}
use Rattle.spec_alloc.specs.Freeing.{is_in_use}
use Rattle.db_alloc.proofs.maps.is_in_use.Given as goal

abbrev pub invariant-loop-i : goal.invariant-loop-i
invariant-loop-i g l =
    let a = g.P.PlanPages.state l.v in
    IsTrue a.told → is_in_use a.view.shape l.e.0 a.view ≡ list_any (counts_as_allocated a.view.shape a.view) (range_with_len (8 * l.e.0 + l.i) (8 - l.i))
