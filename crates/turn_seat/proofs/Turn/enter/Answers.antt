use Rattle.std.proofs.Common.{rules, ap, Some}
use Rattle.turn_seat.proofs.Moves.{held_one}
use Rattle.turn_seat.proofs.Turn.enter.Goals as goal

pub exchange-slot-requires : goal.exchange-slot-requires
exchange-slot-requires g c = let h = c.take.ensures.called in (search rules, (Some h.0, held_one g.S.Stands.entries c.take.new.token.me.1 0 (Some h.0) (ap (λ m. m.1) h.1)))
