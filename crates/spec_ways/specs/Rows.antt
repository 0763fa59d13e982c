-- Rows in the order of their keys: one put among them, one taken, and what the row of a key holds.
use Rattle.std.specs.Prelude.{ℕ, Bool, true, List, [], ◌∷◌, Option, Some, None, nat_lt, ◌==◌, if◌then◌else◌}
use Rattle.spec_levels.specs.Levels.{Payload, Row, Tree, rows_of}

-- the rows with this one at its place; it stands for one with its key
abbrev pub with_row : {V : Type 0} → Row V → List (Row V) → List (Row V)
with_row row [] = row ∷ []
with_row row (other ∷ rest) = if nat_lt row.key other.key then row ∷ other ∷ rest else (if row.key == other.key then row ∷ rest else other ∷ with_row row rest)

-- the rows without the one with this key
abbrev pub without : {V : Type 0} → ℕ → List (Row V) → List (Row V)
without key [] = []
without key (row ∷ rest) = if key == row.key then rest else row ∷ without key rest

-- what the row with this key holds; none where no row has it
abbrev pub value_at : {V : Type 0} → ℕ → List (Row V) → Option V
value_at key [] = None
value_at key (row ∷ rest) = if key == row.key then Some row.value else value_at key rest

-- the same by place: told by the first row whose key isn't below this one
abbrev pub value_found : {V : Type 0} → ℕ → List (Row V) → Option V
value_found key [] = None
value_found key (row ∷ rest) = if nat_lt row.key key then value_found key rest else (if key == row.key then Some row.value else None)

-- the key of the first row; 0 where there is no row
abbrev pub lowest_key : {V : Type 0} → List (Row V) → ℕ
lowest_key [] = 0
lowest_key (row ∷ rest) = row.key

-- the page that the first of an index page's rows names; 0 where there is none
abbrev pub first_value : List (Row ℕ) → ℕ
first_value [] = 0
first_value (row ∷ rest) = row.value

-- these rows, the first with this key
abbrev pub with_first_key : {V : Type 0} → ℕ → List (Row V) → List (Row V)
with_first_key key [] = []
with_first_key key (row ∷ rest) = record { key = key; value = row.value } ∷ rest

-- the key is below that of the first of these rows, if there is one
abbrev pub is_below_first : ℕ → List (Row ℕ) → Bool
is_below_first key [] = true
is_below_first key (row ∷ rest) = nat_lt key row.key

-- the data rows of a tree, from left to right
abbrev pub contents : Tree → List (Row Payload)
contents tree = rows_of tree.leaves
