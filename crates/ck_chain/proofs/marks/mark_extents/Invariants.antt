use Rattle.std.proofs.Common.{◌≡◌, vec_len}
use Rattle.pg_iam.specs.Views.{bytes_of}
use Rattle.ck_chain.specs.Marking.{AreMarkedAs, MarksFront}
use Rattle.ck_chain.proofs.marks.mark_extents.Given as goal

abbrev pub invariant-loop-n : goal.invariant-loop-n
invariant-loop-n l = record {
  marked : AreMarkedAs l.i (MarksFront (bytes_of l.iam) l.start l.n) l.initial.extents.items l.extents.items;
  size : vec_len l.extents ≡ vec_len l.initial.extents;
}
