-- What holds of a level under the rows that name its pages, and of levels under one another.
use Rattle.std.proofs.Common.{◌≡◌, ℕ, ◌+◌, ◌<◌, List, [], ◌∷◌, ◌++◌, Option, Some, None, ◌==◌}
use Rattle.std.specs.Prelude.{⊤, if◌then◌else◌}
use Rattle.spec_levels.specs.Levels.{Row, Node, rows_of, IsLinked, IsBelow, pages_of, Payload}
use Rattle.spec_ways.specs.Rows.{with_row}
use Rattle.law_ways.proofs.Bounds.{Within, next_key}

-- each row names the page at its place, whose keys rise from the row's on, below the next row's
abbrev pub Level : {V : Type 0} → Option ℕ → List (Row ℕ) → List (Node V) → Type 0
Level high [] [] = ⊤
Level high [] (n ∷ ns) = ⊥
Level high (r ∷ rest) [] = ⊥
Level high (r ∷ rest) (n ∷ ns) = (r.value ≡ n.page) × Within r.key (next_key rest high) n.rows × Level high rest ns

abbrev pub StartsAt : {V : Type 0} → ℕ → List (Row V) → Type 0
StartsAt k [] = ⊥
StartsAt k (y ∷ ys) = y.key ≡ k

-- each page begins with the key of the row that names it
abbrev pub Starts : {V : Type 0} → List (Row ℕ) → List (Node V) → Type 0
Starts [] nodes = ⊤
Starts (r ∷ rest) [] = ⊤
Starts (r ∷ rest) (n ∷ ns) = StartsAt r.key n.rows × Starts rest ns

abbrev pub Fits : Option ℕ → List (Row ℕ) → List (List (Node ℕ)) → List (Node Payload) → Type 0
Fits high rows [] leaves = Level high rows leaves × IsLinked 0 leaves
Fits high rows (nodes ∷ more) leaves = Level high rows nodes × Starts rows nodes × IsLinked 0 nodes × Fits high (rows_of nodes) more leaves

abbrev pub with_up : Option (Row ℕ) → List (Row ℕ) → List (Row ℕ)
with_up None rows = rows
with_up (Some u) rows = with_row u rows

-- the row that goes up stands between these keys
abbrev pub IsUp : ℕ → Option ℕ → Option (Row ℕ) → Type 0
IsUp low high None = ⊤
IsUp low high (Some u) = (low < u.key) × IsBelow u.key high

-- how often a page stands in a list
abbrev pub count : ℕ → List ℕ → ℕ
count p [] = 0
count p (q ∷ qs) = (if q == p then 1 else 0) + count p qs

abbrev pub page_up : Option (Row ℕ) → List ℕ
page_up None = []
page_up (Some u) = u.value ∷ []

abbrev pub all_pages : List (List (Node ℕ)) → List (Node Payload) → List ℕ
all_pages [] leaves = pages_of leaves
all_pages (nodes ∷ more) leaves = pages_of nodes ++ all_pages more leaves
