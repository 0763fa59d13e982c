use Rattle.std.proofs.Common.{refl}
use Rattle.checkdb_top.specs.Answers.{Printed, Stopped}
use Rattle.checkdb_top.proofs.FileReading.{read_through, stopped_reading}
use Rattle.checkdb_top.proofs.Forms.{told_size}
use Rattle.checkdb_top.proofs.Answering.{stops_reading, has_report}
use Rattle.checkdb_top.proofs.check.report.Goals as goal

pub returns-in-Err-clause-answers : goal.returns-in-Err-clause-answers
returns-in-Err-clause-answers g c = Stopped (rw c.status_of.ensures (stops_reading _ c.in-Err.stop (told_size _ c.requires.passes))) refl

pub returns-in-Ok-clause-answers : goal.returns-in-Ok-clause-answers
returns-in-Ok-clause-answers g c =
    Printed c.in-Ok.found (has_report _ c.args.g c.in-Ok.found c.requires.passes c.requires.geometry c.in-Ok.ensures.report) c.print.ensures.prints

pub returns-in-Err-clause-reads : goal.returns-in-Err-clause-reads
returns-in-Err-clause-reads g c =
    rw c.status_of.ensures (stopped_reading _ _ _ _ _ c.args.reader.now.whole c.scanned.new.reader.whole c.scanned.ensures.reads.image
    c.scanned.ensures.reads.faults _ _ _ c.in-Err.stop c.in-Err.ensures.reads.stop)

pub returns-in-Ok-clause-reads : goal.returns-in-Ok-clause-reads
returns-in-Ok-clause-reads g c =
    read_through _ _ _ _ _ c.args.reader.now.whole c.scanned.new.reader.whole c.scanned.ensures.reads.image c.scanned.ensures.reads.faults _
    c.print.ensures.volume_fault
