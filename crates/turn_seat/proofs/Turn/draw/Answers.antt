use Rattle.std.proofs.Common.{rules}
use Rattle.turn_seat.proofs.Moves.{draw_at}
use Rattle.turn_seat.proofs.Turn.draw.Goals as goal

pub compare_exchange-found-requires : goal.compare_exchange-found-requires
compare_exchange-found-requires g c = (search rules, search rules, draw_at g.S.Stands.entries _ _ _ _ c.args.token.now.me.0.parts c.args.token.now.me.0.seen _ (search rules) (search rules))
