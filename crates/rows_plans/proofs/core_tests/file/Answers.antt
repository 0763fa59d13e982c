use Rattle.std.proofs.Common.{length, arith}
use Rattle.spec_run.specs.Openings.{geometry_said}
use Rattle.rows_plans.proofs.Sixteen.{sixteen}
use Rattle.rows_plans.proofs.core_tests.file.Goals as goal

pub returns-clause-shape : goal.returns-clause-shape
returns-clause-shape c = sixteen (geometry_said c.loop-p.frames) (length c.loop-p.frames) (omega (arith, c.loop-p.invariant.count, c.loop-p-test.false))
