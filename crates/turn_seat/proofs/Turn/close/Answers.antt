use Rattle.std.proofs.Common.{rules, subst, ◌≡◌}
use mathlib.Core.List.{IsPrefix}
use Rattle.turn_seat.proofs.Moves.{ends_at, the_same}
use Rattle.turn_seat.proofs.Turn.close.Goals as goal

pub unreachable-requires : goal.unreachable-requires
unreachable-requires g c =
    let closed = c.close_with-closed.ensures.values in
    let end = ends_at g.S.Stands.entries _ _ c.seat.inside.token.me c.seat.inside.parts c.seat.inside.token.me.0.seen closed.2.0 (search rules) closed.2.1 (search rules) in
    let slot = the_same g.S.Stands.entries _ end.0 _ (closed.2.4 0 _ end.1) c.take-slot.ensures.value in
    c.in_default.not-Some end.0 slot

pub returns : goal.returns
returns g c =
    let closed = c.close_with-closed.ensures.values in
    let end = ends_at g.S.Stands.entries _ _ c.seat.inside.token.me c.seat.inside.parts c.seat.inside.token.me.0.seen closed.2.0 (search rules) closed.2.1 (search rules) in
    let slot = the_same g.S.Stands.entries _ end.0 _ (closed.2.4 0 _ end.1) c.take-slot.ensures.value in
    let same : end.0 ≡ c.in-Some.state = cc (slot, c.in-Some.is) in
    let seen : IsPrefix c.args.seat.seen (g.S.Stands.entries end.0) = search rules in
    subst (λ x. IsPrefix c.args.seat.seen (g.S.Stands.entries x)) same seen
