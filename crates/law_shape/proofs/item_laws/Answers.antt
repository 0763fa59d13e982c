use Rattle.law_shape.proofs.Items.{legal_has_items, whole_has_items}
use Rattle.law_shape.proofs.item_laws.Goals as goal

pub returns : goal.returns
returns c = record { items = legal_has_items; whole = whole_has_items }
