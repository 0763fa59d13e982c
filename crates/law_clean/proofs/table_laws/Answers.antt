use Rattle.law_clean.proofs.NamedPages.{next_is_seen, child_is_seen}
use Rattle.law_clean.proofs.table_laws.Goals as goal

pub returns : goal.returns
returns c = record { next = next_is_seen; child = child_is_seen }
