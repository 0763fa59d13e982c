use Rattle.law_levels.proofs.HandMade.{numbers_are_asked, rows_are_asked, height_is_asked}
use Rattle.law_levels.proofs.clause_laws.Goals as goal

pub returns : goal.returns
returns c = record { numbers = numbers_are_asked; rows = rows_are_asked; height = height_is_asked }
