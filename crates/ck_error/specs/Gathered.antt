-- What a list of errors, or of anything else, that is being gathered has, in any order.
use Rattle.std.specs.Prelude.{◌⊎◌, ℕ, ◌<◌, List, Contains}

-- the list has what the rule asks for and nothing else
pub record Gathers {Z : Type 0} (errors : List Z) (Stands : Z → Type 0) : Type 0 where
  pub sound : (x : Z) → Contains errors x → Stands x
  pub complete : (x : Z) → Stands x → Contains errors x

-- the list has grown by what the rule asks for and nothing else
pub record Adds {Z : Type 0} (old new : List Z) (Stands : Z → Type 0) : Type 0 where
  pub sound : (x : Z) → Contains new x → Contains old x ⊎ Stands x
  pub kept : (x : Z) → Contains old x → Contains new x
  pub complete : (x : Z) → Stands x → Contains new x

-- an error of a number below n
abbrev pub Below : {Z : Type 0} → ℕ → (ℕ → Z → Type 0) → Z → Type 0
Below {Z} n R x = (i : ℕ) × (i < n) × R i x

-- an error of a member of the list
abbrev pub Each : {T Z : Type 0} → List T → (T → Z → Type 0) → Z → Type 0
Each {T} {Z} ys R x = (y : T) × Contains ys y × R y x
