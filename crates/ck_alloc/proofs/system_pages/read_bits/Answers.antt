use Rattle.std.proofs.Common.{◌≡◌, arith}
use Rattle.spec_file.specs.Image.{bit}
use Rattle.pg_base.proofs.ReadingLaws.{reads_none, reads_then}
use Rattle.ck_chain.proofs.Exits.{exit_wants}
use Rattle.ck_alloc.specs.SystemPlaces.{place_count}
use Rattle.ck_alloc.proofs.ValuesRead.{bits_fit, first_none, first_more, first_all, of_bits}
use Rattle.ck_alloc.proofs.system_pages.read_bits.Goals as goal

pub loop-k-init : goal.loop-k-init
loop-k-init g c = record {
  said = first_none c.args.kind c.args.g bit c.args.pages _ _ _ c.new-bits.ensures.items;
  reads = reads_none _ _;
}

pub push_bits-requires : goal.push_bits-requires
push_bits-requires g c = bits_fit c.args.kind c.args.g c.args.pages c.loop-k.k _ c.requires.kind c.in_ok-n.ensures.place.rest

pub returns-in_err-push_bits-clause-reads : goal.returns-in_err-push_bits-clause-reads
returns-in_err-push_bits-clause-reads g c = exit_wants _ _ _ _ c.from_residual-in_err-push_bits.ensures.1
    (reads_then _ _ _ _ _ c.loop-k.invariant.reads c.in_ok-n.ensures.reads)

pub loop-k-preserved : goal.loop-k-preserved
loop-k-preserved g c = record {
  said = first_more c.args.kind c.args.g bit c.args.pages c.loop-k.k c.in_ok-n.n _ _ _ _ _ _ _ _ c.requires.shape
      (rw c.place_count-k-end.ensures at c.loop-k-test.true) c.loop-k.invariant.reads.image c.loop-k.invariant.said c.in_ok-n.ensures.place
      c.in_ok-push_bits.ensures;
  reads = reads_then _ _ _ _ _ c.loop-k.invariant.reads c.in_ok-n.ensures.reads;
}

pub returns-clause-said : goal.returns-clause-said
returns-clause-said g c =
    let all : c.loop-k.k ≡ place_count c.args.kind c.args.g c.args.pages = omega (arith, c.loop-k-test.false, c.place_count-k-end.ensures, c.loop-k.auto.k-end) in
    of_bits c.args.kind c.args.g c.args.pages _ _ _ _ c.requires.kind (first_all c.args.kind c.args.g bit c.args.pages c.loop-k.k _ _ _ _ all c.loop-k.invariant.said)
