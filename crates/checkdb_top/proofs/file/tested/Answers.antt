use Rattle.std.proofs.Common.{Some, None, refl}
use Rattle.checkdb_top.specs.WholeFiles.{whole_image}
use Rattle.checkdb_top.specs.Answers.{Refused}
use Rattle.checkdb_top.proofs.FileReading.{read_through, stopped_reading}
use Rattle.checkdb_top.proofs.Forms.{told_fault}
use Rattle.checkdb_top.proofs.file.tested.Goals as goal

pub returns-in-Err-clause-reads : goal.returns-in-Err-clause-reads
returns-in-Err-clause-reads g c =
    rw c.status_of.ensures (stopped_reading _ _ _ _ _ c.args.reader.now.whole c.read_page.new.reader.whole c.read_page.ensures.reads.image
    c.read_page.ensures.reads.faults _ _ _ c.in-Err.stop c.in-Err.ensures.reads.stop)

pub returns-in-Ok-tested_geometry-clause-passes : goal.returns-in-Ok-tested_geometry-clause-passes
returns-in-Ok-tested_geometry-clause-passes g c =
    let fault = rw c.deref.ensures at c.in-Ok-tested_geometry.ensures.fault in
    told_fault _ _ _ None (whole_image _ _ c.args.reader.now.whole) c.requires.size c.in-Ok.ensures.page fault.0

pub returns-in-Ok-tested_geometry-clause-reads : goal.returns-in-Ok-tested_geometry-clause-reads
returns-in-Ok-tested_geometry-clause-reads g c =
    read_through _ _ _ _ _ c.args.reader.now.whole c.read_page.new.reader.whole c.read_page.ensures.reads.image c.read_page.ensures.reads.faults _ (λ is. is)

pub returns-clause-stops : goal.returns-clause-stops
returns-clause-stops g c =
    let why = c.in-Err-tested_geometry.why in
    Refused why refl (told_fault _ _ _ (Some why) (whole_image _ _ c.args.reader.now.whole) c.requires.size c.in-Ok.ensures.page
    (rw c.deref.ensures at c.in-Err-tested_geometry.ensures.fault))

pub returns-clause-reads : goal.returns-clause-reads
returns-clause-reads g c =
    read_through _ _ _ _ _ c.args.reader.now.whole c.read_page.new.reader.whole c.read_page.ensures.reads.image c.read_page.ensures.reads.faults _ (λ is. is)
