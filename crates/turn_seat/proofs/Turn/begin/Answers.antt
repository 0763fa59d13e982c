use Rattle.std.proofs.Common.{rules, ◌≡◌, [], ◌∷◌, Some}
use Rattle.turn_seat.proofs.Moves.{begins}
use Rattle.turn_seat.proofs.Turn.begin.Goals as goal

pub new-requires : goal.new-requires
new-requires g c =
    let start = begins g.S.Stands.entries c.args.parts c.count-count.result c.args.state (search rules) (search rules) (search rules) in
    let slots : c.push.new.self.items ≡ Some c.args.state ∷ [] = search rules in
    rw (slots, c.of.ensures) start
