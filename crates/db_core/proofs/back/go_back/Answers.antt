use Rattle.std.proofs.Common.{arith}
use Rattle.db_core.proofs.Backwards.{went_back}
use Rattle.db_core.proofs.back.go_back.Goals as goal

pub returns-else-last-eq0 : goal.returns-else-last-eq0
returns-else-last-eq0 c =
    let call = c.last_among-last.ensures in
    let take = c.take_at.ensures in
    went_back c.args.items.now c.args.check.now c.take_at.new.check c.as_slice.result.now c.last_among-last.result c.as_slice.ensures.value c.requires.fits call.low
    (omega (arith, c.if-last-eq0.false)) call.same call.found take.place take.pages take.point take.ongoing take.phase
