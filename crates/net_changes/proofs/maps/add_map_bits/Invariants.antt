use Rattle.std.proofs.Common.{◌≡◌, ◌*◌, ◌++◌, ◌/◌, min, IsTrue}
use Rattle.spec_file.specs.Places.{interval_size}
use Rattle.net_changes.specs.Shown.{map_place, bits_shown}
use Rattle.net_changes.proofs.maps.add_map_bits.Given as goal

abbrev pub invariant-loop-m : goal.invariant-loop-m
invariant-loop-m g l =
    let s = g.P.PlanPages.state l.v in
    IsTrue s.told → l.changes.items ≡ l.fn.changes.items ++ bits_shown s (map_place l.map l.geometry) 0 (min (l.m * interval_size l.geometry) (l.pages / 8))
