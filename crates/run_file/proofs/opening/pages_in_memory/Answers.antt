use Rattle.run_file.proofs.Refusals.{tested_file}
use Rattle.run_file.proofs.opening.pages_in_memory.Goals as goal

pub returns-in-Ok-clause-tested : goal.returns-in-Ok-clause-tested
returns-in-Ok-clause-tested g c =
    tested_file _ c.args.first.value.bytes c.args.pages c.in-Ok.ensures.whole c.requires.size c.requires.passes c.in-Ok.ensures.count c.in-Ok.ensures.first
