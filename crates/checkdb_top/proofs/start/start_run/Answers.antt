use Rattle.std.proofs.Common.{◌∙◌, map, refl}
use Rattle.std.proofs.lemmas.List.{length-map}
use Rattle.pg_base.proofs.FaultLaws.{counts_none, counts_as}
use Rattle.vol_dev.proofs.FileReads.{reads_file_as}
use Rattle.run_file.proofs.OpeningLaws.{run_file}
use Rattle.checkdb_top.specs.declared.status.Device.TheVariants.{Volume, Log, Source, Sink}
use Rattle.checkdb_top.proofs.Starting.{sources_apart, file_apart, log_apart, file_blames, log_blames, sources_stop, file_stop, log_stop, sources_blame}
use Rattle.checkdb_top.proofs.start.start_run.Goals as goal

pub returns-in-Err-clause-stops : goal.returns-in-Err-clause-stops
returns-in-Err-clause-stops g c = rw c.of_sources.ensures (sources_stop (map g.S.Source.left c.args.sources.now) (g.V.Volume.contents c.args.volume.now) (g.L.LogFile.contents c.args.log.now)
    (map g.S.Source.faults c.args.sources.now) (map g.S.Source.faults c.read_sources.new.sources) c.in-Err.stop c.in-Err.ensures.fault)

pub returns-in-Err-clause-source_fault : goal.returns-in-Err-clause-source_fault
returns-in-Err-clause-source_fault g c = rw c.of_sources.ensures (sources_blame (map g.S.Source.left c.args.sources.now)
    (map g.S.Source.faults c.args.sources.now) (map g.S.Source.faults c.read_sources.new.sources) c.in-Err.stop c.in-Err.ensures.fault)

pub returns-in-Err-clause-sink_fault : goal.returns-in-Err-clause-sink_fault
returns-in-Err-clause-sink_fault g c = rw c.of_sources.ensures (sources_apart Sink c.in-Err.stop (λ same. cc))

pub returns-in-Err-clause-reads : goal.returns-in-Err-clause-reads
returns-in-Err-clause-reads g c =
    rw c.of_sources.ensures (record { contents = refl; faults = counts_none _ _ (sources_apart Volume c.in-Err.stop (λ same. cc)) })

pub returns-in-Err-clause-log_faults : goal.returns-in-Err-clause-log_faults
returns-in-Err-clause-log_faults g c = rw c.of_sources.ensures (counts_none _ _ (sources_apart Log c.in-Err.stop (λ same. cc)))

pub returns-in-Err-open_file-clause-stops : goal.returns-in-Err-open_file-clause-stops
returns-in-Err-open_file-clause-stops g c =
    rw c.of_file.ensures (file_stop (map g.S.Source.left c.args.sources.now) (g.V.Volume.contents c.args.volume.now) (g.L.LogFile.contents c.args.log.now) c.in-Err-open_file.stop
    (_, _, c.in-Ok.ensures.texts) c.in-Err-open_file.ensures.fault)

pub returns-in-Err-open_file-clause-source_fault : goal.returns-in-Err-open_file-clause-source_fault
returns-in-Err-open_file-clause-source_fault g c =
    rw c.of_file.ensures (λ is. absurd (file_apart Source c.in-Err-open_file.stop (λ same. cc) is))

pub returns-in-Err-open_file-clause-sink_fault : goal.returns-in-Err-open_file-clause-sink_fault
returns-in-Err-open_file-clause-sink_fault g c = rw c.of_file.ensures (file_apart Sink c.in-Err-open_file.stop (λ same. cc))

pub returns-in-Err-open_file-clause-reads : goal.returns-in-Err-open_file-clause-reads
returns-in-Err-open_file-clause-reads g c =
    rw c.of_file.ensures (reads_file_as _ _ _ _ _ (file_blames c.in-Err-open_file.stop) c.in-Err-open_file.ensures.reads)

pub returns-in-Err-open_file-clause-log_faults : goal.returns-in-Err-open_file-clause-log_faults
returns-in-Err-open_file-clause-log_faults g c = rw c.of_file.ensures (counts_none _ _ (file_apart Log c.in-Err-open_file.stop (λ same. cc)))

pub returns-in-Ok-open_log-clause-begins : goal.returns-in-Ok-open_log-clause-begins
returns-in-Ok-open_log-clause-begins g c =
    let read = c.in-Ok.ensures in
    let opened = c.in-Ok-open_file.ensures in
    record {
      texts = read.texts;
      count = length-map c.in-Ok.texts.scripts.items (λ script. script.items) ∙ read.count;
      short = read.short;
      proper = read.proper;
      inside = read.inside;
      passes = opened.run;
      pages = opened.told;
      empty = c.in-Ok-open_log.ensures.empty;
    }

pub returns-in-Ok-open_log-clause-reads : goal.returns-in-Ok-open_log-clause-reads
returns-in-Ok-open_log-clause-reads g c = reads_file_as _ _ _ _ _ (λ is. absurd is) c.in-Ok-open_file.ensures.reads

pub returns-in-Ok-open_log-clause-log_faults : goal.returns-in-Ok-open_log-clause-log_faults
returns-in-Ok-open_log-clause-log_faults g c = counts_as _ _ _ _ (λ is. absurd is) c.in-Ok-open_log.ensures.faults

pub returns-in-Err-open_log-clause-stops : goal.returns-in-Err-open_log-clause-stops
returns-in-Err-open_log-clause-stops g c =
    rw c.of_log.ensures (log_stop (map g.S.Source.left c.args.sources.now) (g.V.Volume.contents c.args.volume.now) (g.L.LogFile.contents c.args.log.now) c.in-Err-open_log.stop
    (_, _, c.in-Ok.ensures.texts)
    (run_file c.in-Ok-open_file.frames (g.V.Volume.contents c.args.volume.now) c.in-Ok-open_file.ensures.run c.in-Ok-open_file.ensures.told) c.in-Err-open_log.ensures.fault)

pub returns-in-Err-open_log-clause-source_fault : goal.returns-in-Err-open_log-clause-source_fault
returns-in-Err-open_log-clause-source_fault g c = rw c.of_log.ensures (λ is. absurd (log_apart Source c.in-Err-open_log.stop (λ same. cc) is))

pub returns-in-Err-open_log-clause-sink_fault : goal.returns-in-Err-open_log-clause-sink_fault
returns-in-Err-open_log-clause-sink_fault g c = rw c.of_log.ensures (log_apart Sink c.in-Err-open_log.stop (λ same. cc))

pub returns-in-Err-open_log-clause-reads : goal.returns-in-Err-open_log-clause-reads
returns-in-Err-open_log-clause-reads g c =
    rw c.of_log.ensures (reads_file_as _ _ _ _ _ (λ is. absurd (log_apart Volume c.in-Err-open_log.stop (λ same. cc) is)) c.in-Ok-open_file.ensures.reads)

pub returns-in-Err-open_log-clause-log_faults : goal.returns-in-Err-open_log-clause-log_faults
returns-in-Err-open_log-clause-log_faults g c = rw c.of_log.ensures (counts_as _ _ _ _ (log_blames c.in-Err-open_log.stop) c.in-Err-open_log.ensures.faults)
