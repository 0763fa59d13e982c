use Rattle.law_trees.proofs.RowsRead.{rows_are_read}
use Rattle.law_trees.proofs.reading_law.Goals as goal

pub returns : goal.returns
returns c = rows_are_read
