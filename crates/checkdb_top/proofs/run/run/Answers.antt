use Rattle.std.proofs.Common.{[], length, map}
use Rattle.checkdb_top.specs.Runs.{Runs}
use Rattle.pg_base.proofs.FaultLaws.{counts_then}
use Rattle.db_core.proofs.TurnsLeft.{within_run}
use Rattle.checkdb_top.proofs.Begun.{may_begin, is_run}
use Rattle.checkdb_top.proofs.run.run.Goals as goal

pub replayed-requires : goal.replayed-requires
replayed-requires g c = may_begin _ _ _ c.in-Ok.start (length c.args.sources.now) c.in-Ok.ensures.begins c.requires.few

pub returns-in-Ok-close_run-clause-ends : goal.returns-in-Ok-close_run-clause-ends
returns-in-Ok-close_run-clause-ends g c =
    let core = c.in-Ok-replayed.core in
    let ready = c.in-Ok.ensures in
    Runs core.run core.entries
    (is_run (map g.S.Source.left c.args.sources.now) (g.V.Volume.contents c.args.volume.now) (g.L.LogFile.contents c.args.log.now) c.in-Ok.start core
    c.in-Ok-replayed.ensures (length c.args.sources.now) ready.begins) ready.ends
    (rw (ready.reads.contents, ready.log) at c.in-Ok-close_run.ensures.closes)

pub returns-in-Ok-close_run-clause-volume_faults : goal.returns-in-Ok-close_run-clause-volume_faults
returns-in-Ok-close_run-clause-volume_faults g c = counts_then _ _ _ _ _ c.in-Ok.ensures.reads.faults c.in-Ok-close_run.ensures.volume_faults

pub returns-in-Ok-close_run-clause-log_faults : goal.returns-in-Ok-close_run-clause-log_faults
returns-in-Ok-close_run-clause-log_faults g c = counts_then _ _ _ _ _ c.in-Ok.ensures.log_faults c.in-Ok-close_run.ensures.log_faults

pub close_run-requires-clause-start : goal.close_run-requires-clause-start
close_run-requires-clause-start g c = c.in-Ok-replayed.ensures.start

pub close_run-requires-clause-made : goal.close_run-requires-clause-made
close_run-requires-clause-made g c =
    let over = c.in-Ok-replayed.ensures in
    (_, within_run _ over.left [] _ over.after _ over.taken)

pub close_run-requires-clause-whole : goal.close_run-requires-clause-whole
close_run-requires-clause-whole g c = c.in-Ok-replayed.ensures.whole
