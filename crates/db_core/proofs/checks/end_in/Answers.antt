use Rattle.std.proofs.Common.{inl, refl}
use Rattle.db_core.proofs.CheckEnds.{ended, ended_short}
use Rattle.db_core.proofs.checks.end_in.Goals as goal

pub returns-in-Ok : goal.returns-in-Ok
returns-in-Ok c =
    let take = c.take_check-point.ensures in
    ended c.args.place c.take_check-point.result c.args.session.now c.take_check-point.new.session c.end.new.session _ take.was take.stays
    (inl (c.in-Ok.report, c.requires.read c.take_check-point.result take.was, c.in-Ok.ensures, c.end.ensures.replies, refl)) c.end.ensures.kept c.end.ensures.left c.end.ensures.doing c.end.ensures.kept_room

pub returns : goal.returns
returns c =
    let take = c.take_check-point.ensures in
    ended_short c.args.place c.take_check-point.result c.args.session.now c.take_check-point.new.session c.short_end.new.session c.short_end.result take.was take.stays c.short_end.ensures
