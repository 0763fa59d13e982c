use Rattle.std.proofs.Common.{[], ◌∷◌}
use Rattle.std.proofs.lemmas.List.Elements.{Contains-push}
use Rattle.spec_file.specs.declared.geometry.Geometry.TheVariants.{Small}
use Rattle.spec_file.specs.Places.{pfs_page}
use Rattle.rows_locks.proofs.net_tests.put_byte.Goals as goal

pub returns : goal.returns
returns g c =
    let p = pfs_page Small c.args.p.0 in
    (c.set_pfs_byte.ensures (p ∷ []) (λ told. Contains-push [] p)).stays.shape
