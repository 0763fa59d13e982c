-- Trees worked by hand, and what a tree asks of each of their numbers.
use Rattle.std.specs.Prelude.{◌≡◌, ◌↔◌, ℕ, zero, suc, ◌<◌, ◌≤◌, List, [], ◌∷◌, map, Contains}
use Rattle.spec_levels.specs.Levels.{Row, Index, Leaf, Tree, IsTree}

-- a row that names a page
abbrev pub row : ℕ → ℕ → Row ℕ
row key child = record { key = key; value = child }

-- an index page: its number, the pages before and behind it, and its rows
abbrev pub index : ℕ → ℕ → ℕ → List (Row ℕ) → Index
index page prev next rows = record { page = page; prev = prev; next = next; rows = rows }

-- a leaf whose rows have these keys
abbrev pub leaf : ℕ → ℕ → ℕ → List ℕ → Leaf
leaf page prev next keys = record { page = page; prev = prev; next = next; rows = map (λ key. record { key = key; value = [] }) keys }

-- a table without rows: its root is a leaf
abbrev pub empty_tree : Tree
empty_tree = record { above = []; leaves = leaf 24 0 0 [] ∷ [] }

-- The root 24 has the index pages 30 and 31 below it, these the leaves 40, 41 and 42, and a last leaf. These are the
-- numbers in this tree that may be wrong.
pub record Numbers : Type 0 where
  -- the page that the root's second row names, and the page that the second row of page 30 names
  pub index_child : ℕ
  pub leaf_child : ℕ
  -- the keys of the two rows of page 31
  pub first : ℕ
  pub second : ℕ
  -- next of page 30 and prev of page 31, prev and next of page 41, prev of the first leaf and next of the last
  pub index_next : ℕ
  pub index_prev : ℕ
  pub leaf_prev : ℕ
  pub leaf_next : ℕ
  pub start : ℕ
  pub end : ℕ
  -- the keys of the two rows of page 41
  pub low : ℕ
  pub high : ℕ
  -- the page of the last leaf
  pub last : ℕ

abbrev pub three_levels : Numbers → Tree
three_levels numbers = record {
  above = (index 24 0 0 (row 0 30 ∷ row 50 numbers.index_child ∷ []) ∷ [])
      ∷ (index 30 0 numbers.index_next (row 0 40 ∷ row 20 numbers.leaf_child ∷ [])
      ∷ index 31 numbers.index_prev 0 (row numbers.first 42 ∷ row numbers.second numbers.last ∷ []) ∷ []) ∷ [];
  leaves = leaf 40 numbers.start 41 (5 ∷ []) ∷ leaf 41 numbers.leaf_prev numbers.leaf_next (numbers.low ∷ numbers.high ∷ [])
      ∷ leaf 42 41 numbers.last [] ∷ leaf numbers.last 42 numbers.end (90 ∷ []) ∷ [];
}

-- numbers with which it is a tree
abbrev pub right_numbers : Numbers
right_numbers = record {
  index_child = 31;
  leaf_child = 41;
  first = 50;
  second = 70;
  index_next = 31;
  index_prev = 30;
  leaf_prev = 40;
  leaf_next = 42;
  start = 0;
  end = 0;
  low = 20;
  high = 30;
  last = 43;
}

-- what is asked of each number
pub record AreRight (numbers : Numbers) : Type 0 where
  -- a row names the page below it
  pub index_child : numbers.index_child ≡ 31
  pub leaf_child : numbers.leaf_child ≡ 41
  -- an index page begins with the key of the row above it, and its keys rise; below its second row stands the key 90
  pub first : numbers.first ≡ 50
  pub second : (50 < numbers.second) × (numbers.second ≤ 90)
  -- pages that stand side by side name each other, and nothing stands before the first and behind the last
  pub index_next : numbers.index_next ≡ 31
  pub index_prev : numbers.index_prev ≡ 30
  pub leaf_prev : numbers.leaf_prev ≡ 40
  pub leaf_next : numbers.leaf_next ≡ 42
  pub start : numbers.start ≡ 0
  pub end : numbers.end ≡ 0
  -- the keys of a leaf rise, from the key of the row above it on and below that of the row behind that one
  pub keys : (20 ≤ numbers.low) × (numbers.low < numbers.high) × (numbers.high < 50)
  -- a page isn't page 0, and stands once
  pub last : Contains (0 ∷ 24 ∷ 30 ∷ 31 ∷ 40 ∷ 41 ∷ 42 ∷ []) numbers.last → ⊥

-- so each of them alone, where it is wrong, makes that it isn't a tree, and mended it is one
abbrev pub NumbersAreAsked : Type 0
NumbersAreAsked = (numbers : Numbers) → IsTree 24 (three_levels numbers) ↔ AreRight numbers

-- a root above two leaves
abbrev pub two_leaves : List (Row ℕ) → Tree
two_leaves rows = record { above = (index 24 0 0 rows ∷ []) ∷ []; leaves = leaf 30 0 31 [] ∷ leaf 31 30 0 [] ∷ [] }

-- the root has one row for each leaf, in their order, and its first key is 0
abbrev pub RowsAreAsked : Type 0
RowsAreAsked = (rows : List (Row ℕ)) → IsTree 24 (two_leaves rows) ↔ ((key : ℕ) × (0 < key) × (rows ≡ row 0 30 ∷ row key 31 ∷ []))

-- so many levels of one index page each above an empty leaf, which is page 1
abbrev pub above_leaf : ℕ → List (List Index)
above_leaf zero = []
above_leaf (suc levels) = (index (suc (suc levels)) 0 0 (row 0 (suc levels) ∷ []) ∷ []) ∷ above_leaf levels

abbrev pub tower : ℕ → Tree
tower levels = record { above = above_leaf levels; leaves = leaf 1 0 0 [] ∷ [] }

-- a tree has at most 15 levels above its leaves
abbrev pub HeightIsAsked : Type 0
HeightIsAsked = (levels : ℕ) → IsTree (suc levels) (tower levels) ↔ levels ≤ 15
