use Rattle.std.proofs.Common.{◌≡◌, length}
use Rattle.spec_log.specs.Cells.{HasWholePages}
use Rattle.rows_plans.proofs.core_tests.file.Given as goal

abbrev pub invariant-loop-p : goal.invariant-loop-p
invariant-loop-p l = record {
  whole : HasWholePages l.frames;
  count : length l.frames ≡ l.p;
}
