use Rattle.law_chains.proofs.ReadChains.{chain_is_read}
use Rattle.law_chains.proofs.chain_law.Goals as goal

pub returns : goal.returns
returns c = chain_is_read
