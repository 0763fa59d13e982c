use Rattle.std.proofs.Common.{arith}
use Rattle.ck_error.proofs.GatheringLaws.{adds_each_none, adds_each_next, adds_each_all}
use Rattle.ck_alloc.proofs.pages.add_mark_tests.Goals as goal

pub loop-i-init : goal.loop-i-init
loop-i-init c = adds_each_none _ _

pub loop-i-preserved : goal.loop-i-preserved
loop-i-preserved c = adds_each_next _ _ _ _ _ _ _ c.loop-i-test.true c.loop-i.invariant c.in_ok-add_mark_test.ensures

pub returns : goal.returns
returns c = adds_each_all _ _ _ _ _ (omega arith) (omega arith) c.loop-i.invariant
