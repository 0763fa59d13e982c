use Rattle.run_file.proofs.OpeningLaws.{told_passes}
use Rattle.run_file.proofs.Refusals.{later_file}
use Rattle.run_file.proofs.opening.open_file.Goals as goal

pub returns-clause-fault : goal.returns-clause-fault
returns-clause-fault g c =
    later_file _ c.in-Ok-pages_in_memory.frames c.taken.result
    (told_passes _ _ _ c.in-Ok.ensures.ok c.passes_size.ensures c.if-not-passes_size.false) c.in-Ok-pages_in_memory.ensures.tested
    (rw (c.in-Ok-tested_first.ensures.reads.contents, c.in-Ok.ensures.same) at c.in-Ok-pages_in_memory.ensures.told) c.taken.ensures.fault
