use Rattle.spec_run.proofs.Marks.{marks_change_nothing}
use Rattle.spec_run.proofs.mark_law.Goals as goal

pub returns : goal.returns
returns c = marks_change_nothing
