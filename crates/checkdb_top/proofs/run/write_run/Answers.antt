use Rattle.std.proofs.Common.{refl}
use Rattle.checkdb_top.specs.declared.status.Device.TheVariants.{Volume, Log, Source, Sink}
use Rattle.checkdb_top.specs.Writes.{AllWritten, AtSink}
use Rattle.checkdb_top.proofs.Closings.{whole_file}
use Rattle.checkdb_top.proofs.run.write_run.Goals as goal

pub returns-in-Ok-write_replies-clause-volume_faults : goal.returns-in-Ok-write_replies-clause-volume_faults
returns-in-Ok-write_replies-clause-volume_faults g c = record { cause = λ is. absurd (c.requires.known Volume is); later = c.in-Ok.ensures.volume_faults.later }

pub returns-in-Ok-write_replies-clause-log_faults : goal.returns-in-Ok-write_replies-clause-log_faults
returns-in-Ok-write_replies-clause-log_faults g c = record { cause = λ is. absurd (c.requires.known Log is); later = c.in-Ok.ensures.log_faults.later }

pub returns-in-Ok-write_replies-clause-sink_faults : goal.returns-in-Ok-write_replies-clause-sink_faults
returns-in-Ok-write_replies-clause-sink_faults g c = record { cause = λ is. absurd (c.requires.known Sink is); later = c.in-Ok-write_replies.ensures.faults.later }

pub returns-in-Ok-write_replies-clause-source_fault : goal.returns-in-Ok-write_replies-clause-source_fault
returns-in-Ok-write_replies-clause-source_fault g c = λ is. c.requires.known Source is

pub returns-in-Err-clause-writes : goal.returns-in-Err-clause-writes
returns-in-Err-clause-writes g c =
    AtSink refl c.in-Ok.ensures.closes.0 (whole_file _ _ _ c.requires.may.size c.in-Ok.ensures.closes.1) c.in-Err.ensures.grows

pub returns-in-Ok-write_replies-clause-writes : goal.returns-in-Ok-write_replies-clause-writes
returns-in-Ok-write_replies-clause-writes g c =
    AllWritten refl c.in-Ok.ensures.closes.0 (whole_file _ _ _ c.requires.may.size c.in-Ok.ensures.closes.1) c.in-Ok-write_replies.ensures.grows
