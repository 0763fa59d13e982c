use Rattle.law_statements.proofs.Computed.{first_is_created, name_is_told_first, chain_is_dropped, pages_are_dropped}
use Rattle.law_statements.proofs.examples.Goals as goal

pub returns : goal.returns
returns c = record { created = first_is_created; name = name_is_told_first; chain = chain_is_dropped; pages = pages_are_dropped }
