use Rattle.std.proofs.Common.{rules, Some, None}
use mathlib.Core.Option.{none}
use Rattle.atomic_table.specs.Table.{step}
use Rattle.turn_seat.specs.Rule.{called}
use Rattle.turn_seat.proofs.Moves.{count_at, pass_at, exchanged_me, counted_me}
use Rattle.turn_seat.proofs.Turn.leave.Goals as goal

pub store-requires : goal.store-requires
store-requires g c =
    let me = exchanged_me g.S.Stands.entries c.seat.inside.token.me c.exchange-nothing.new.seat.me (called c.seat.inside.parts c.seat.inside.token.me.0.seen c.seat.inside.ticket) (Some c.args.inside.state) None (search rules) (search rules) in
    (search rules, search rules, count_at g.S.Stands.entries _ _ _ _ c.seat.inside.parts c.seat.inside.token.me.0.seen c.seat.inside.ticket c.args.inside.state _ me (search rules) (search rules) (search rules))

pub store-requires-2 : goal.store-requires-2
store-requires-2 g c =
    let me = exchanged_me g.S.Stands.entries c.seat.inside.token.me c.exchange-nothing.new.seat.me (called c.seat.inside.parts c.seat.inside.token.me.0.seen c.seat.inside.ticket) (Some c.args.inside.state) None (search rules) (search rules) in
    (search rules, search rules, pass_at g.S.Stands.entries _ _ _ _ c.seat.inside.parts (g.S.Stands.entries c.args.inside.state) c.seat.inside.ticket c.args.inside.state (counted_me g.S.Stands.entries (step c.self.inside.table.shared.table_id.slots 2 c.count-count.result 0 none) c.exchange-nothing.new.seat.me c.count-count.result c.store.new.seat.me c.seat.inside.parts c.seat.inside.token.me.0.seen c.seat.inside.ticket c.args.inside.state (search rules) me) (search rules) (search rules))
