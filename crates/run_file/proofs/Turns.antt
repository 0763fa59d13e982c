-- The sessions that a schedule names.
use Rattle.std.proofs.Common.{ℕ, ◌≤◌, nat_le, List, [], ◌∷◌, arith}
use Rattle.std.proofs.lemmas.Bool.{and_parts, leb-true}
use Rattle.std.proofs.lemmas.List.Elements.{All-cons}
use Rattle.spec_script.specs.Lines.{IsTurnsLine}
use Rattle.spec_script.specs.Texts.{AreLines}
use Rattle.spec_start.specs.Sources.{IsTurnOf, AreTurnsOf}

turn_inside : (sessions : ℕ) (line : List ℕ) (turns : ℕ × ℕ) → IsTurnsLine sessions line turns → IsTurnOf sessions turns
turn_inside sessions line turns is =
    let parts = and_parts (nat_le 1 turns.0) (nat_le turns.0 sessions) is.session in
    let low : 1 ≤ turns.0 = leb-true 1 turns.0 parts.0 in
    (omega (arith, low), leb-true turns.0 sessions parts.1)

pub turns_inside : (sessions : ℕ) (lines : List (List ℕ)) (turns : List (ℕ × ℕ)) → AreLines (IsTurnsLine sessions) lines turns → AreTurnsOf sessions turns
turns_inside sessions [] [] are = λ k d below. absurd (omega (arith, below))
turns_inside sessions [] (t ∷ turns) are = absurd are
turns_inside sessions (l ∷ lines) [] are = absurd are
turns_inside sessions (l ∷ lines) (t ∷ turns) are = All-cons (IsTurnOf sessions) t turns (turn_inside sessions l t are.0) (turns_inside sessions lines turns are.1)
