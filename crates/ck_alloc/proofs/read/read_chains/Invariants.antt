use Rattle.std.proofs.Common.{◌≡◌, ◌/◌, None, vec_len}
use Rattle.std.specs.Option.{ForSome}
use Rattle.ck_facts.specs.Maps.{rows_of_objects}
use Rattle.pg_base.specs.Reading.{OnlyReads}
use Rattle.ck_alloc.specs.ChainsRead.{AreChainsRead}
use Rattle.ck_alloc.proofs.read.read_chains.Given as goal

abbrev pub invariant-loop-i : goal.invariant-loop-i
invariant-loop-i g l = record {
  extents : vec_len l.found.extents ≡ l.pages / 8;
  read : ForSome (g.R.SnapReader.image l.initial.reader) (λ image. AreChainsRead l.g image (rows_of_objects l.objects) l.i l.initial.found l.found);
  reads : OnlyReads g.R.SnapReader l.initial.reader l.reader None;
}
