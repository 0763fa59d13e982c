use Rattle.std.proofs.Common.{None}
use Rattle.pg_base.specs.Reading.{OnlyReads}
use Rattle.ck_alloc.specs.declared.places.SystemKind.TheVariants.{Pfs}
use Rattle.ck_alloc.specs.SystemPlaces.{byte_of}
use Rattle.ck_alloc.proofs.ValuesRead.{SaysFirst}
use Rattle.ck_alloc.proofs.system_pages.read_bytes.Given as goal

abbrev pub invariant-loop-k : goal.invariant-loop-k
invariant-loop-k g l = record {
  said : SaysFirst Pfs l.g byte_of l.pages l.k (g.R.SnapReader.image l.fn.reader) l.initial.errors.items l.errors.items l.bytes.items;
  reads : OnlyReads g.R.SnapReader l.fn.reader l.reader None;
}
