use Rattle.db_core.proofs.Begun.{whole_seen}
use Rattle.db_core.proofs.db.Core.replay.Goals as goal

pub returns-clause-run : goal.returns-clause-run
returns-clause-run c =
    let replayed = whole_seen c.self.inside.state c.run_schedule.new.state c.finish_all.new.state c.args.self.now c.args.schedule.now c.self.view_is c.run_schedule.ensures c.finish_all.ensures in
    (replayed.counts, replayed.all, replayed.run)

pub returns-clause-whole : goal.returns-clause-whole
returns-clause-whole c =
    (whole_seen c.self.inside.state c.run_schedule.new.state c.finish_all.new.state c.args.self.now c.args.schedule.now c.self.view_is c.run_schedule.ensures c.finish_all.ensures).whole
