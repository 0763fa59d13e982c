use Rattle.net_changes.proofs.BitLaws.{nothing, bits_same}
use Rattle.net_changes.proofs.maps.add_page_bits.Goals as goal

pub returns : goal.returns
returns g c = λ told. nothing _ _ (bits_same _ _ _ _ _ (c.read_put.ensures.same c.if-read_put.false told))
