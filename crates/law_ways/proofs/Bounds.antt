-- Rows whose keys stand between bounds.
use Rattle.std.proofs.Common.{◌≡◌, ◌⊎◌, ℕ, suc, ◌≤◌, List, [], ◌∷◌, Option, Some, ◌==◌}
use Rattle.std.specs.Prelude.{⊤, if◌then◌else◌}
use Rattle.spec_levels.specs.Levels.{Row, IsBelow}
use Rattle.spec_ways.specs.Rows.{with_first_key}
use Rattle.spec_ways.specs.Ways.{row_toward}

-- rows whose keys rise, from the low bound on and below the high one
abbrev pub Within : {V : Type 0} → ℕ → Option ℕ → List (Row V) → Type 0
Within low high [] = ⊤
Within low high (y ∷ ys) = (low ≤ y.key) × IsBelow y.key high × Within (suc y.key) high ys

-- the key of the first of these rows, or else the bound behind them
abbrev pub next_key : {V : Type 0} → List (Row V) → Option ℕ → Option ℕ
next_key [] high = high
next_key (y ∷ ys) high = Some y.key

-- the rows without that with the key, whose place and key the next row takes
abbrev pub shifted : ℕ → List (Row ℕ) → List (Row ℕ)
shifted k [] = []
shifted k (r ∷ rest) = if k == r.key then with_first_key k rest else r ∷ shifted k rest

abbrev pub HasKey : ℕ → List (Row ℕ) → Type 0
HasKey k [] = ⊥
HasKey k (r ∷ rest) = (k ≡ r.key) ⊎ HasKey k rest

-- the value or the key of the row under which a key belongs
abbrev pub toward_by : (Row ℕ → ℕ) → ℕ → List (Row ℕ) → ℕ
toward_by of key rows = of (row_toward key rows)

-- the rows behind the one with this key
abbrev pub rows_behind : ℕ → List (Row ℕ) → List (Row ℕ)
rows_behind k [] = []
rows_behind k (r ∷ rest) = if k == r.key then rest else rows_behind k rest
