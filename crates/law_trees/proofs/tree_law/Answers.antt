use Rattle.law_trees.proofs.Proved.{sound_table_is_tree}
use Rattle.law_trees.proofs.tree_law.Goals as goal

pub returns : goal.returns
returns c = sound_table_is_tree
