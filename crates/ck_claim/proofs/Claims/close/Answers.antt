use Rattle.std.proofs.Common.{rules, arith, ◌≡◌, true, min, ap, subst, ◌∙◌}
use Rattle.ck_claim.specs.Shown.{ClaimSeatModel, IsEachBelow}
use Rattle.ck_claim.proofs.Moves.{ends_at}
use Rattle.ck_claim.proofs.Claims.close.Goals as goal

pub returns : goal.returns
returns c =
    let closed = c.close_with-closed.ensures.values in
    let end = ends_at _ _ closed.2.0 _ c.seat.inside.seat.me.0 c.word-found.result closed.2.1 closed.2.2 c.word-found.ensures (search rules) in
    let answer : min c.word-found.result c.self.inside.table.shared.key.count ≡ c.min.result = omega arith in
    let draws = ap (λ (s : ClaimSeatModel). s.draws) c.seat.view_is in
    let count : c.args.self.count ≡ c.self.inside.count = search rules in record {
      drawn = subst (IsEachBelow c.min.result) draws (subst (λ n. IsEachBelow n c.seat.inside.seat.me.0.draws) answer end.0);
      within = omega arith;
      all = λ knows. let known : c.seat.inside.seat.me.0.knows_all ≡ true = ap (λ m. m.0.knows_all) c.seat.invariant.0 ∙ (ap (λ (s : ClaimSeatModel). s.knows_all) c.seat.view_is ∙ knows) in let above = end.1 known in omega arith;
    }
