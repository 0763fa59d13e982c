use Rattle.law_undo.proofs.Law.{undo_gives_committed}
use Rattle.law_undo.proofs.undo_law.Goals as goal

pub returns : goal.returns
returns c = undo_gives_committed
