-- The turns of a whole run (the order is this project's own).
use Rattle.std.specs.Prelude.{ℕ, ◌+◌, List, [], ◌∷◌, ◌++◌, replicate, flat_map}

-- the turns of a schedule: of each session so many
abbrev pub turns_of : List (ℕ × ℕ) → List ℕ
turns_of schedule = flat_map (λ (p : ℕ × ℕ). replicate p.1 p.0) schedule

-- from session s on, each session's turns, with how many each has
abbrev pub rest_from : ℕ → List ℕ → List ℕ
rest_from s [] = []
rest_from s (n ∷ counts) = replicate n s ++ rest_from (s + 1) counts
