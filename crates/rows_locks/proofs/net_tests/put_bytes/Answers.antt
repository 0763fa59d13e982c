use Rattle.std.proofs.Common.{[], ◌∷◌, ◌∙◌}
use Rattle.std.proofs.lemmas.List.Elements.{Contains-push}
use Rattle.rows_locks.proofs.net_tests.put_bytes.Goals as goal

pub returns : goal.returns
returns g c = (c.put_page.ensures (c.args.p.0 ∷ []) (λ told. Contains-push [] c.args.p.0)).stays.shape ∙ c.in_ok-look_page.ensures.does.stays.shape
