use Rattle.std.proofs.Common.{None}
use Rattle.spec_file.specs.Image.{bit}
use Rattle.pg_base.specs.Reading.{OnlyReads}
use Rattle.ck_alloc.proofs.ValuesRead.{SaysFirst}
use Rattle.ck_alloc.proofs.system_pages.read_bits.Given as goal

abbrev pub invariant-loop-k : goal.invariant-loop-k
invariant-loop-k g l = record {
  said : SaysFirst l.kind l.g bit l.pages l.k (g.R.SnapReader.image l.fn.reader) l.initial.errors.items l.errors.items l.bits.items;
  reads : OnlyReads g.R.SnapReader l.fn.reader l.reader None;
}
