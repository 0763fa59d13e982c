use Rattle.std.proofs.Common.{refl, arith}
use Rattle.checkdb_top.specs.WholeFiles.{whole_image}
use Rattle.checkdb_top.specs.Answers.{Printed, Lacking, Stopped}
use Rattle.checkdb_top.proofs.FileReading.{read_through, stopped_reading}
use Rattle.checkdb_top.proofs.Forms.{told_size}
use Rattle.checkdb_top.proofs.Answering.{stops_reading, has_page, has_no_page}
use Rattle.checkdb_top.proofs.show.show_page.Goals as goal

pub returns-then-p-reader-clause-answers : goal.returns-then-p-reader-clause-answers
returns-then-p-reader-clause-answers g c =
    Lacking 3 refl (has_no_page _ _ _ (whole_image _ _ c.args.reader.now.whole) c.requires.passes (omega (arith, c.if-p-reader.true))) refl refl

pub returns-in-Err-clause-answers : goal.returns-in-Err-clause-answers
returns-in-Err-clause-answers g c = Stopped (rw c.status_of.ensures (stops_reading _ c.in-Err.stop (told_size _ c.requires.passes))) refl

pub returns-in-Ok-clause-answers : goal.returns-in-Ok-clause-answers
returns-in-Ok-clause-answers g c =
    Printed _ (has_page _ _ _ _ (whole_image _ _ c.args.reader.now.whole) c.requires.passes (omega (arith, c.if-p-reader.false)) c.in-Ok.ensures.page)
    (rw c.deref.ensures at c.print.ensures.prints)

pub returns-in-Err-clause-reads : goal.returns-in-Err-clause-reads
returns-in-Err-clause-reads g c =
    rw c.status_of.ensures (stopped_reading _ _ _ _ _ c.args.reader.now.whole c.read_page.new.reader.whole c.read_page.ensures.reads.image
    c.read_page.ensures.reads.faults _ _ _ c.in-Err.stop c.in-Err.ensures.reads.stop)

pub returns-in-Ok-clause-reads : goal.returns-in-Ok-clause-reads
returns-in-Ok-clause-reads g c =
    read_through _ _ _ _ _ c.args.reader.now.whole c.read_page.new.reader.whole c.read_page.ensures.reads.image c.read_page.ensures.reads.faults _
    c.print.ensures.volume_fault
