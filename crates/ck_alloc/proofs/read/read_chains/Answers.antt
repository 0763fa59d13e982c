use Rattle.std.proofs.Common.{◌≡◌, arith, ◌∙◌, length, subst}
use Rattle.ck_facts.specs.Maps.{rows_of_objects}
use Rattle.pg_base.proofs.ReadingLaws.{reads_then}
use Rattle.ck_alloc.specs.ChainsRead.{AreChainsRead}
use Rattle.ck_alloc.proofs.ChainSteps.{read_more, row_at}
use Rattle.ck_alloc.proofs.read.read_chains.Goals as goal

pub loop-i-preserved : goal.loop-i-preserved
loop-i-preserved g c = record {
  extents = rw c.owner_of-owner.ensures.pages at c.in_ok-read_chain.ensures.extents;
  read = λ x at.
      let (row, is) = row_at c.args.objects.now c.loop-i.i c.loop-i-test.true in
      let chain = c.in_ok-read_chain.ensures.read x (c.loop-i.invariant.reads.image ∙ at) row (c.owner_of-owner.ensures.row row is) (c.first_of.ensures row is) in
      read_more c.args.g x (rows_of_objects c.args.objects.now) c.loop-i.i row c.args.found.now c.loop-i.found c.read_chain.new.found is
      (c.loop-i.invariant.read x at) (rw (c.owner_of-owner.ensures.geometry, c.owner_of-owner.ensures.index) at chain);
  reads = reads_then _ _ _ _ _ c.loop-i.invariant.reads c.in_ok-read_chain.ensures.reads;
}

pub returns-clause-read : goal.returns-clause-read
returns-clause-read g c = λ x at.
    let full : c.loop-i.i ≡ length c.args.objects.now = omega (arith, c.loop-i-test.false, c.loop-i.auto.i-end) in
    subst (λ n. AreChainsRead c.args.g x (rows_of_objects c.args.objects.now) n c.args.found.now c.loop-i.found) full (c.loop-i.invariant.read x at)
