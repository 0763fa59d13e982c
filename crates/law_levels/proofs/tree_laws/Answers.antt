use Rattle.law_levels.proofs.Proved.{sound_is_tree}
use Rattle.law_levels.proofs.OneTree.{one_tree}
use Rattle.law_levels.proofs.tree_laws.Goals as goal

pub returns : goal.returns
returns c = record { sound = sound_is_tree; one = one_tree }
