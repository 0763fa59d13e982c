use Rattle.law_levels.proofs.HandMade.{empty_is_tree, right_numbers_are_tree}
use Rattle.law_levels.proofs.examples.Goals as goal

pub returns : goal.returns
returns c = record { empty = empty_is_tree; levels = right_numbers_are_tree }
