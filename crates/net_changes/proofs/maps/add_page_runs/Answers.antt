use Rattle.net_changes.proofs.BitLaws.{nothing}
use Rattle.net_changes.proofs.RunLaws.{runs_same}
use Rattle.net_changes.proofs.maps.add_page_runs.Goals as goal

pub returns : goal.returns
returns g c = λ told. nothing _ _ (runs_same _ _ _ _ _ (c.read_put.ensures.same c.if-read_put.false told))
