use Rattle.run_file.proofs.Refusals.{told_first_fails}
use Rattle.run_file.proofs.opening.tested_first.Goals as goal

pub returns-in-Err-tested_geometry-clause-fault : goal.returns-in-Err-tested_geometry-clause-fault
returns-in-Err-tested_geometry-clause-fault g c =
    told_first_fails _ _ c.args.pages _ c.requires.pages c.requires.low c.in-Ok.ensures.page (rw c.deref.ensures at c.in-Err-tested_geometry.ensures.fault)
