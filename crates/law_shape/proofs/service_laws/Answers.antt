use Rattle.law_shape.proofs.Items.{legal_is_served, whole_is_served}
use Rattle.law_shape.proofs.service_laws.Goals as goal

pub returns : goal.returns
returns c = record { legal = legal_is_served; whole = whole_is_served }
