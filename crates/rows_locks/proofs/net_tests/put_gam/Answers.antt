use Rattle.std.proofs.Common.{[], ◌∷◌}
use Rattle.std.proofs.lemmas.List.Elements.{Contains-push}
use Rattle.spec_file.specs.Places.{gam_place}
use Rattle.rows_locks.proofs.net_tests.put_gam.Goals as goal

pub returns : goal.returns
returns g c =
    let p = (gam_place (g.P.PlanPages.state c.args.v.now).view.shape.geometry c.args.e.0).page in
    (c.set_gam_bit.ensures (p ∷ []) (λ told. Contains-push [] p)).stays.shape
