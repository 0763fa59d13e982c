use Rattle.std.proofs.Common.{None}
use Rattle.std.specs.Option.{ForSome}
use Rattle.pg_base.specs.Reading.{OnlyReads}
use Rattle.ck_facts.specs.MapOf.{IsMapOf}
use Rattle.ck_scan.specs.Scans.{extents_left, IsScanBy, IsScanOf}
use Rattle.ck_scan.proofs.stepped.scan_one.Given as goal

abbrev pub invariant-extents : goal.invariant-extents
invariant-extents g l = record {
  by : IsScanBy l.map l.scan;
  of : ForSome (g.R.SnapReader.image l.initial.reader) (λ image. IsMapOf image l.map → IsScanOf image l.map l.scan);
  reads : OnlyReads g.R.SnapReader l.initial.reader l.reader None;
}

abbrev pub decreases-extents : goal.decreases-extents
decreases-extents g l = extents_left l.map l.scan
