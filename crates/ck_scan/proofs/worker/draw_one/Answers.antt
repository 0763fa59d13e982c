use Rattle.std.proofs.Common.{◌≡◌, ◌∙◌, sym, subst, ap, length}
use Rattle.std.proofs.lemmas.Option.{none-some}
use Rattle.std.proofs.lemmas.List.{length_push}
use Rattle.pg_base.proofs.ReadingLaws.{reads_none}
use Rattle.ck_claim.specs.Shown.{ClaimSeatModel, IsOf, with_draw}
use Rattle.ck_scan.specs.Found.{AreFoundIn}
use Rattle.ck_scan.proofs.worker.draw_one.Goals as goal

pub returns-in_default-clause-drawn : goal.returns-in_default-clause-drawn
returns-in_default-clause-drawn g c =
    let going = c.requires.going in
    record {
      job = record { of = rw c.in_default.ensures.none going.job.of; one = rw c.in_default.ensures.none going.job.one; found = going.job.found };
      reads = rw going.going (reads_none g.R.SnapReader c.args.worker.now.reader);
      holds = λ none x at of was. (rw c.in_default.ensures.none was.0, was.1);
    }

pub returns-in-Ok-clause-drawn : goal.returns-in-Ok-clause-drawn
returns-in-Ok-clause-drawn g c =
    let going = c.requires.going in
    let old = c.args.worker.now.job.seat in
    let seat : c.draw.new.seat ≡ with_draw old c.in-Some.e = c.in-Some.ensures.drawn in
    record {
      job = record {
        of = subst (IsOf c.args.claims.now) (sym seat) going.job.of;
        one = ap (λ (s : ClaimSeatModel). s.parts) seat ∙ going.job.one;
        found = record {
          lines = c.find_in_extent.ensures.lines ∙ going.job.found.lines;
          roots = c.find_in_extent.ensures.roots ∙ going.job.found.roots;
          count = c.find_in_extent.ensures.parts ∙ going.job.found.count;
        };
      };
      reads = rw going.going c.in-Ok.ensures.reads;
      holds = λ none x at of was.
          let found = c.in-Ok.ensures.found x at old.draws of was.1 was.0 in
          (subst (λ (s : ClaimSeatModel). AreFoundIn x c.args.map.now s.draws c.find_in_extent.new.found) (sym seat) found.0, found.1);
    }

pub returns-in-Ok-clause-more : goal.returns-in-Ok-clause-more
returns-in-Ok-clause-more g c = λ is.
    let old = c.args.worker.now.job.seat in
    let seat : c.draw.new.seat ≡ with_draw old c.in-Some.e = c.in-Some.ensures.drawn in
    ap (λ (s : ClaimSeatModel). length s.draws) seat ∙ length_push old.draws c.in-Some.e

pub returns-in-Err-clause-drawn : goal.returns-in-Err-clause-drawn
returns-in-Err-clause-drawn g c =
    let going = c.requires.going in
    let old = c.args.worker.now.job.seat in
    let seat : c.draw.new.seat ≡ with_draw old c.in-Some.e = c.in-Some.ensures.drawn in
    record {
      job = record {
        of = subst (IsOf c.args.claims.now) (sym seat) going.job.of;
        one = ap (λ (s : ClaimSeatModel). s.parts) seat ∙ going.job.one;
        found = record {
          lines = c.find_in_extent.ensures.lines ∙ going.job.found.lines;
          roots = c.find_in_extent.ensures.roots ∙ going.job.found.roots;
          count = c.find_in_extent.ensures.parts ∙ going.job.found.count;
        };
      };
      reads = c.in-Err.ensures.reads;
      holds = λ none. absurd (none-some _ (sym none));
    }
