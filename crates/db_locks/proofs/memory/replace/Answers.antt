use Rattle.std.proofs.lemmas.List.{map-set}
use Rattle.pg_base.specs.declared.page.Page.{Page}
use Rattle.db_locks.proofs.memory.replace.Goals as goal

pub returns-clause-image : goal.returns-clause-image
returns-clause-image c = map-set (λ (p : Page). p.bytes) _ _ _
