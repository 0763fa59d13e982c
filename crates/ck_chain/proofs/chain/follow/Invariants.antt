use Rattle.std.proofs.Common.{◌≡◌, ◌/◌, None, length, vec_len}
use Rattle.std.specs.Option.{ForSome}
use Rattle.pg_base.specs.Reading.{OnlyReads}
use Rattle.ck_chain.proofs.Reading.{IsReading}
use Rattle.ck_chain.proofs.chain.follow.Given as goal

abbrev pub invariant-loop-count : goal.invariant-loop-count
invariant-loop-count g l = record {
  at : l.walk.link.count ≡ l.count;
  met : vec_len l.walk.met ≡ l.owner.pages;
  eight : length l.walk.firsts ≡ 8;
  extents : vec_len l.found.extents ≡ l.owner.pages / 8;
  read : ForSome (g.R.SnapReader.image l.initial.reader) (IsReading l.owner l.first l.count l.walk l.initial.found l.found);
  reads : OnlyReads g.R.SnapReader l.initial.reader l.reader None;
}
