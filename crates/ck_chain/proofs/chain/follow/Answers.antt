use Rattle.std.proofs.Common.{◌≡◌, ℕ, ◌+◌, ◌<◌, arith, ◌∙◌, sym, refl, ap, subst}
use Rattle.spec_file.specs.Image.{page}
use Rattle.pg_base.proofs.ReadingLaws.{reads_then}
use Rattle.ck_chain.specs.declared.walk.Link.{Link}
use Rattle.ck_chain.proofs.Exits.{exit_wants}
use Rattle.ck_chain.proofs.Reading.{IsReading, goes_on, ends, never_full, told_at}
use Rattle.ck_chain.proofs.chain.follow.Goals as goal

pub returns-in-Some-clause-read : goal.returns-in-Some-clause-read
returns-in-Some-clause-read g c = λ x at.
    let whole = g.met.R.SnapReader.whole c.args.reader.now x at ∙ c.requires.count in
    ends c.args.owner.now c.args.first c.loop-count.count c.loop-count.walk c.args.found.now c.loop-count.found _ x c.look.new.page.bytes c.in-Some.end
    whole (sym c.loop-count.walk.met.ok.0 ∙ c.loop-count.invariant.met) (sym c.in_ok-end.ensures.end ∙ c.in-Some.is)
    (λ none. told_at _ x (λ image. c.look.new.page.bytes ≡ page image c.loop-count.walk.link.page) (c.loop-count.invariant.reads.image ∙ at) (c.in_ok-end.ensures.read none))
    c.in_ok-note_end.ensures refl refl (c.loop-count.invariant.read x at)

pub returns-in_err-note_end-clause-reads : goal.returns-in_err-note_end-clause-reads
returns-in_err-note_end-clause-reads g c = exit_wants _ _ _ _ c.from_residual-in_err-note_end.ensures.1
    (reads_then _ _ _ _ _ c.loop-count.invariant.reads c.in_ok-end.ensures.reads)

pub returns-in_err-take-clause-reads : goal.returns-in_err-take-clause-reads
returns-in_err-take-clause-reads g c = exit_wants _ _ _ _ c.from_residual-in_err-take.ensures.1
    (reads_then _ _ _ _ _ c.loop-count.invariant.reads c.in_ok-end.ensures.reads)

pub loop-count-preserved : goal.loop-count-preserved
loop-count-preserved g c = record {
  at = ap (λ (l : Link). l.count) c.in_ok-take.ensures.walk.link ∙ ap (λ (n : ℕ). n + 1) c.loop-count.invariant.at;
  met = c.in_ok-take.ensures.size;
  eight = c.take.ensures.eight;
  extents = c.in_ok-take.ensures.extents;
  read = λ x at.
      let whole = g.met.R.SnapReader.whole c.args.reader.now x at ∙ c.requires.count in
      goes_on c.args.owner.now c.args.first c.loop-count.count c.loop-count.walk c.take.new.walk c.args.found.now c.loop-count.found c.take.new.found x
      c.look.new.page.bytes c.requires.shape whole (sym c.loop-count.walk.met.ok.0 ∙ c.loop-count.invariant.met) c.loop-count.invariant.eight
      (sym c.args.found.now.extents.ok.0 ∙ c.requires.extents)
      (sym c.in_ok-end.ensures.end ∙ c.in_default.is)
      (λ none. told_at _ x (λ image. c.look.new.page.bytes ≡ page image c.loop-count.walk.link.page) (c.loop-count.invariant.reads.image ∙ at) (c.in_ok-end.ensures.read none))
      c.in_ok-take.ensures.taken c.in_ok-take.ensures.walk (c.loop-count.invariant.read x at);
  reads = reads_then _ _ _ _ _ c.loop-count.invariant.reads c.in_ok-end.ensures.reads;
}

pub returns-clause-read : goal.returns-clause-read
returns-clause-read g c = λ x at row id starts.
    let whole = g.met.R.SnapReader.whole c.args.reader.now x at ∙ c.requires.count in
    let full : c.loop-count.count ≡ c.args.owner.now.pages = omega (arith, c.loop-count-test.false, c.loop-count.auto.count-end) in
    let some : 0 < c.args.owner.now.pages = omega (arith, c.requires.shape.low) in
    absurd (never_full c.args.owner.now c.args.first c.loop-count.walk c.args.found.now c.loop-count.found x some whole row id starts
    (subst (λ n. IsReading c.args.owner.now c.args.first n c.loop-count.walk c.args.found.now c.loop-count.found x) full (c.loop-count.invariant.read x at)))
