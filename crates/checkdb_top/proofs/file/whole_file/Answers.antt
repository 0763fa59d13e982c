use Rattle.std.proofs.Common.{refl}
use Rattle.spec_start.specs.declared.why.FileWhy.TheVariants.{Size}
use Rattle.checkdb_top.specs.Answers.{Refused}
use Rattle.checkdb_top.proofs.Forms.{told_fails}
use Rattle.checkdb_top.proofs.file.whole_file.Goals as goal

pub returns-then-not-passes_size-clause-stops : goal.returns-then-not-passes_size-clause-stops
returns-then-not-passes_size-clause-stops g c =
    Refused Size refl (told_fails _ _ _ c.in-Ok.ensures.ok c.passes_size.ensures c.if-not-passes_size.true)
