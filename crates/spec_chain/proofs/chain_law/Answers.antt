use Rattle.spec_chain.proofs.ChainLaws.{chain_has_one_length, chain_is_short}
use Rattle.spec_chain.proofs.chain_law.Goals as goal

-- src/lib.rt:8:1
pub returns : goal.returns
returns c = record { one = chain_has_one_length; short = chain_is_short }
