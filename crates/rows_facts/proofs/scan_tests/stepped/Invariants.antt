use Rattle.std.proofs.Common.{◌≡◌}
use Rattle.ck_scan.specs.Scans.{extents_left, IsScanBy}
use Rattle.rows_facts.proofs.scan_tests.stepped.Given as goal

abbrev pub invariant-extents : goal.invariant-extents
invariant-extents l = record {
  pages : l.reader.pages ≡ l.map.pages;
  by : IsScanBy l.map l.scan;
}

abbrev pub decreases-extents : goal.decreases-extents
decreases-extents l = extents_left l.map l.scan
