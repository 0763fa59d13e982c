use Rattle.std.proofs.Common.{◌∙◌}
use Rattle.pg_base.proofs.ReadingLaws.{reads_none, reads_then}
use Rattle.ck_scan.proofs.stepped.scan_one.Goals as goal

pub extents-init : goal.extents-init
extents-init g c = record {
  by = c.in_ok-scan.ensures.by;
  of = λ image at of. c.in_ok-scan.ensures.of image of;
  reads = reads_none g.R.SnapReader c.args.reader.now;
}

pub extents-preserved : goal.extents-preserved
extents-preserved g c = record {
  by = c.in_ok-read_next.ensures.next.by;
  of = λ image at of. c.in_ok-read_next.ensures.next.of image (c.extents.invariant.reads.image ∙ at) (c.extents.invariant.of image at of);
  reads = reads_then g.R.SnapReader _ _ _ _ c.extents.invariant.reads c.in_ok-read_next.ensures.reads;
}
