use Rattle.std.proofs.Common.{arith, ◌∙◌, sym}
use Rattle.ck_alloc.proofs.ChainSteps.{bare_more, bare_of}
use Rattle.ck_alloc.proofs.read.extents_of.Goals as goal

pub loop-e-preserved : goal.loop-e-preserved
loop-e-preserved c = record {
  bare = rw c.in_ok-push.ensures.items (bare_more _ _ _ _ c.loop-e.invariant.bare
      (bare_of c.args.free.now c.args.mixed.now c.loop-e.e _ (omega (arith, c.loop-e-test.true)) (omega (arith, c.loop-e-test.true, c.requires))
      (sym c.loop-e.extents.ok.0 ∙ c.loop-e.invariant.size)));
  size = omega (arith, c.in_ok-push.ensures.len, c.loop-e.invariant.size);
}
