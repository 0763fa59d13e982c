-- Lists of bytes in order: compared byte by byte, a shorter one before its continuations (this project's own).
use Rattle.std.specs.Prelude.{ℕ, Bool, if◌then◌else◌, List, [], ◌∷◌}
use Rattle.std.specs.Ordering.{nat_cmp, is_lt}
use Rattle.std.specs.Cmp.Lexicographic.{slice_cmp}

abbrev pub is_below : List ℕ → List ℕ → Bool
is_below a b = is_lt (slice_cmp nat_cmp a b)

-- one more goes before the first that isn't below it
abbrev pub put_in : List ℕ → List (List ℕ) → List (List ℕ)
put_in bytes [] = bytes ∷ []
put_in bytes (first ∷ rest) = if is_below first bytes then first ∷ put_in bytes rest else bytes ∷ first ∷ rest

-- all of them, rising
abbrev pub in_rising_order : List (List ℕ) → List (List ℕ)
in_rising_order [] = []
in_rising_order (bytes ∷ others) = put_in bytes (in_rising_order others)
