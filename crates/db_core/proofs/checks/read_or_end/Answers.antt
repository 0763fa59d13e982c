use Rattle.db_core.proofs.CheckEnds.{ended_short}
use Rattle.db_core.proofs.checks.read_or_end.Goals as goal

pub returns-in-Err : goal.returns-in-Err
returns-in-Err c =
    ended_short c.args.place c.requires.checking.0 c.args.session.now c.read_in.new.session c.short_end.new.session c.short_end.result c.requires.checking.1 c.read_in.ensures.stays c.short_end.ensures
