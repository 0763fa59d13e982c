use Rattle.law_extents.proofs.GoodKinds.{free_is_kind, shared_is_kind, owned_is_kind, good_has_kind}
use Rattle.law_extents.proofs.kind_laws.Goals as goal

pub returns : goal.returns
returns c = record { free = free_is_kind; shared = shared_is_kind; owned = owned_is_kind; some = good_has_kind }
