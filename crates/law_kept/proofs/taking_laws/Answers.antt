use Rattle.law_kept.proofs.Singles.{single_is_taken, single_sets_sgam}
use Rattle.law_kept.proofs.NewChains.{chain_is_taken}
use Rattle.law_kept.proofs.taking_laws.Goals as goal

pub returns : goal.returns
returns c = record { single = single_is_taken; sgam = single_sets_sgam; chain = chain_is_taken }
