use Rattle.std.proofs.Common.{◌≡◌, vec_len}
use Rattle.ck_alloc.specs.ChainsRead.{AreBare}
use Rattle.ck_alloc.proofs.read.extents_of.Given as goal

abbrev pub invariant-loop-e : goal.invariant-loop-e
invariant-loop-e l = record {
  bare : AreBare l.free l.mixed l.extents.items;
  size : vec_len l.extents ≡ l.e;
}
