use Rattle.std.proofs.Common.{◌≡◌, ◌*◌, ◌++◌, min, IsTrue}
use Rattle.spec_file.specs.Places.{pfs_span}
use Rattle.net_changes.specs.Shown.{runs_shown}
use Rattle.net_changes.proofs.maps.add_byte_runs.Given as goal

abbrev pub invariant-loop-m : goal.invariant-loop-m
invariant-loop-m g l =
    let s = g.P.PlanPages.state l.v in
    IsTrue s.told → l.changes.items ≡ l.fn.changes.items ++ runs_shown s 0 (min (l.m * pfs_span l.geometry) l.pages)
