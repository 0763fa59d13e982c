use Rattle.std.proofs.Common.{◌≡◌, ◌+◌, None, length}
use Rattle.ck_scan.specs.Working.{HasDrawn}
use Rattle.ck_scan.proofs.worker.work.Given as goal

abbrev pub invariant-loop-drawn : goal.invariant-loop-drawn
invariant-loop-drawn g l = record {
  drawn : HasDrawn g.R.SnapReader l.claims l.map l.initial.worker l.worker;
  going : l.worker.job.stop ≡ None;
  count : length l.worker.job.seat.draws ≡ length l.initial.worker.job.seat.draws + l.drawn;
}
