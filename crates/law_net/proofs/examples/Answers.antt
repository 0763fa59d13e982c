use Rattle.law_net.proofs.Computed.{runs_stay, cells_go, slots_begin, pages_become, others_do_not, takes_in_order, listed_once}
use Rattle.law_net.proofs.examples.Goals as goal

pub returns : goal.returns
returns c = record { runs = runs_stay; cells = cells_go; slots = slots_begin; allocated = pages_become; others = others_do_not; takes = takes_in_order; once = listed_once }
