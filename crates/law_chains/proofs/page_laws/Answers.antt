use Rattle.law_chains.proofs.Allocated.{pages_are_allocated, pages_rise}
use Rattle.law_chains.proofs.page_laws.Goals as goal

pub returns : goal.returns
returns c = record { allocated = pages_are_allocated; rising = pages_rise }
