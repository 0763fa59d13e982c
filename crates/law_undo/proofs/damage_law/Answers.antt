use Rattle.law_undo.proofs.Damage.{damage_is_old}
use Rattle.law_undo.proofs.damage_law.Goals as goal

pub returns : goal.returns
returns c = damage_is_old
