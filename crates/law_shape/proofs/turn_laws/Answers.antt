use Rattle.law_shape.proofs.Marking.{turns_mark, turns_are_legal}
use Rattle.law_shape.proofs.turn_laws.Goals as goal

pub returns : goal.returns
returns c = record { marks = turns_mark; legal = turns_are_legal }
