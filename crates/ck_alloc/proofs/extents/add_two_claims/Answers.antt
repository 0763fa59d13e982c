use Rattle.std.proofs.lemmas.Result.{on_ok_weaker}
use Rattle.std.proofs.Common.{◌∙◌, ap, nat_lt}
use Rattle.spec_check.specs.Maps.{claim_count, two_claims}
use Rattle.ck_alloc.proofs.Growing.{adds_if}
use Rattle.ck_alloc.proofs.extents.add_two_claims.Goals as goal

pub returns : goal.returns
returns c =
    let claims = c.claims_of-claims.ensures in
    on_ok_weaker c.push_if.result (adds_if _ _ _ _ _ _ (ap (nat_lt 1) (c.claim_count.ensures ∙ ap claim_count claims))
    (c.two_claims_error-error.ensures ∙ ap (two_claims c.args.state.now.extent c.args.markers.now) claims)) c.push_if.ensures
