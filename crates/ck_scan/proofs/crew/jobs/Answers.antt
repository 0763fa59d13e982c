use Rattle.std.proofs.Common.{◌≡◌, ◌-◌, arith, sym, subst, ap, ◌∙◌}
use Rattle.std.proofs.lemmas.List.Elements.{All-push}
use Rattle.ck_claim.specs.Shown.{ClaimSeatModel, IsOf}
use Rattle.ck_scan.specs.Working.{IsBegun}
use Rattle.ck_scan.proofs.crew.jobs.Goals as goal

pub parts-preserved : goal.parts-preserved
parts-preserved c =
    let before = c.parts.invariant in
    let left = c.in-Some.ensures.old in
    let parts : c.split.new.seat.parts ≡ c.parts.left.parts - 1 = ap (λ (s : ClaimSeatModel). s.parts) left in
    let counted = before.count in
    let pushed = c.in_ok-push.ensures.len in
    let told = c.parts-in-parts.ensures.parts in
    let test = c.parts-test.true in
    record {
      of = subst (IsOf c.args.claims.now) (sym left) before.of;
      draws = ap (λ (s : ClaimSeatModel). s.draws) left ∙ before.draws;
      begun = rw c.in_ok-push.ensures.items (All-push (IsBegun c.args.claims.now c.args.map.now) c.parts.all.items c.in_ok-job.field-0 before.begun c.in_ok-job.ensures);
      count = omega (arith, parts, counted, pushed, told, test);
    }

pub returns-clause-begun : goal.returns-clause-begun
returns-clause-begun c = rw c.in_ok-push-2.ensures.items (All-push (IsBegun c.args.claims.now c.args.map.now) c.parts.all.items c.in_ok-job-2.field-0 c.parts.invariant.begun c.in_ok-job-2.ensures)
