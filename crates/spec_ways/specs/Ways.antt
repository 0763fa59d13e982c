-- The way towards a key: the pages from the root down to the leaf where the key belongs.
use Rattle.std.specs.Prelude.{ℕ, Bool, true, false, List, [], ◌∷◌, ◌++◌, map, Option, Some, None, nat_lt, ◌==◌, if◌then◌else◌}
use Rattle.spec_levels.specs.Levels.{Row, Node, Index, Leaf, Tree, root_row}

-- the keys of all these rows are above this one
abbrev pub are_above : ℕ → List (Row ℕ) → Bool
are_above key [] = true
are_above key (row ∷ rest) = if nat_lt key row.key then are_above key rest else false

-- the row of an index page under which a key belongs: the last whose key isn't above it, or else the first
abbrev pub row_toward : ℕ → List (Row ℕ) → Row ℕ
row_toward key [] = root_row 0
row_toward key (row ∷ rest) = if are_above key rest then row else row_toward key rest

-- the rows with this one right behind it
abbrev pub with_behind : ℕ → Row ℕ → List (Row ℕ) → List (Row ℕ)
with_behind key new [] = new ∷ []
with_behind key new (row ∷ rest) = if are_above key rest then row ∷ new ∷ rest else row ∷ with_behind key new rest

-- the rows without it
abbrev pub without_toward : ℕ → List (Row ℕ) → List (Row ℕ)
without_toward key [] = []
without_toward key (row ∷ rest) = if are_above key rest then rest else row ∷ without_toward key rest

-- the page that it names
abbrev pub child_toward : ℕ → List (Row ℕ) → ℕ
child_toward key rows = (row_toward key rows).value

-- its key
abbrev pub key_toward : ℕ → List (Row ℕ) → ℕ
key_toward key rows = (row_toward key rows).key

-- the node of a level that stands in this page
abbrev pub node_at : {V : Type 0} → ℕ → List (Node V) → Option (Node V)
node_at page [] = None
node_at page (node ∷ nodes) = if node.page == page then Some node else node_at page nodes

-- pages from one down to a leaf: the index pages, the highest first, and the leaf
pub record Way : Type 0 where
  pub above : List Index
  pub leaf : Leaf

-- the way that ends at a leaf at once
abbrev pub ending_at : Option Leaf → Option Way
ending_at None = None
ending_at (Some leaf) = Some (record { above = []; leaf = leaf })

-- the way through an index page, given that from the child on
abbrev pub through : Index → Option Way → Option Way
through node None = None
through node (Some way) = Some (record { above = node ∷ way.above; leaf = way.leaf })

abbrev pub through_child : (ℕ → Option Way) → ℕ → Option Index → Option Way
through_child from key None = None
through_child from key (Some node) = through node (from (child_toward key node.rows))

-- the way towards a key from a page of the first of these levels
abbrev pub way_from : ℕ → List (List Index) → List Leaf → ℕ → Option Way
way_from key [] leaves page = ending_at (node_at page leaves)
way_from key (nodes ∷ more) leaves page = through_child (way_from key more leaves) key (node_at page nodes)

-- the way from the root of a tree
abbrev pub way_to : ℕ → Tree → ℕ → Option Way
way_to root tree key = way_from key tree.above tree.leaves root

-- the pages of a way, the highest first
abbrev pub way_pages : Way → List ℕ
way_pages way = map (λ (node : Index). node.page) way.above ++ way.leaf.page ∷ []
