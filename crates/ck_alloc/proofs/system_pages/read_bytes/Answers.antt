use Rattle.std.proofs.Common.{◌≡◌, arith}
use Rattle.pg_base.proofs.ReadingLaws.{reads_none, reads_then}
use Rattle.ck_chain.proofs.Exits.{exit_wants}
use Rattle.ck_alloc.specs.declared.places.SystemKind.TheVariants.{Pfs}
use Rattle.ck_alloc.specs.SystemPlaces.{place_count, byte_of}
use Rattle.ck_alloc.proofs.ValuesRead.{bytes_fit, first_none, first_more, first_all}
use Rattle.ck_alloc.proofs.system_pages.read_bytes.Goals as goal

pub loop-k-init : goal.loop-k-init
loop-k-init g c = record {
  said = first_none Pfs c.args.g byte_of c.args.pages _ _ _ c.new-bytes.ensures.items;
  reads = reads_none _ _;
}

pub push_bytes-requires : goal.push_bytes-requires
push_bytes-requires g c = bytes_fit c.args.g c.args.pages c.loop-k.k _ c.in_ok-n.ensures.place.rest

pub returns-in_err-push_bytes-clause-reads : goal.returns-in_err-push_bytes-clause-reads
returns-in_err-push_bytes-clause-reads g c = exit_wants _ _ _ _ c.from_residual-in_err-push_bytes.ensures.1
    (reads_then _ _ _ _ _ c.loop-k.invariant.reads c.in_ok-n.ensures.reads)

pub loop-k-preserved : goal.loop-k-preserved
loop-k-preserved g c = record {
  said = first_more Pfs c.args.g byte_of c.args.pages c.loop-k.k c.in_ok-n.n _ _ _ _ _ _ _ _ c.requires.shape
      (rw c.place_count-k-end.ensures at c.loop-k-test.true) c.loop-k.invariant.reads.image c.loop-k.invariant.said c.in_ok-n.ensures.place
      c.in_ok-push_bytes.ensures;
  reads = reads_then _ _ _ _ _ c.loop-k.invariant.reads c.in_ok-n.ensures.reads;
}

pub returns-clause-said : goal.returns-clause-said
returns-clause-said g c =
    let all : c.loop-k.k ≡ place_count Pfs c.args.g c.args.pages = omega (arith, c.loop-k-test.false, c.place_count-k-end.ensures, c.loop-k.auto.k-end) in
    first_all Pfs c.args.g byte_of c.args.pages c.loop-k.k _ _ _ _ all c.loop-k.invariant.said
