use Rattle.std.proofs.Common.{rules}
use Rattle.turn_seat.proofs.Moves.{take_at}
use Rattle.turn_seat.proofs.Turn.take.Goals as goal

pub load-served-requires : goal.load-served-requires
load-served-requires g c = (search rules, search rules, take_at g.S.Stands.entries _ _ _ _ c.args.token.now.me.0.parts c.args.token.now.me.0.seen c.args.ticket (search rules) (search rules))
