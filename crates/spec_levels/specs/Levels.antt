-- A clustered table's tree as levels: the pages of each level from left to right, the root's level first and the leaves
-- last (Pages and Extents Architecture Guide; that a level is linked from its first page to its last is a B+ tree's).
use Rattle.std.specs.Prelude.{◌≡◌, ℕ, suc, ◌<◌, ◌≤◌, Option, Some, None, List, [], ◌∷◌, ◌++◌, length, map, Contains}
use Rattle.std.specs.List.{flat_map}

-- a row: its key, and its payload or the page that it names
pub record Row (V : Type 0) : Type 0 where
  pub key : ℕ
  pub value : V

-- a page, the pages before and behind it on its level (0 for none), and its rows
pub record Node (V : Type 0) : Type 0 where
  pub page : ℕ
  pub prev : ℕ
  pub next : ℕ
  pub rows : List (Row V)

-- the bytes of a row's payload
abbrev pub Payload : Type 0
Payload = List ℕ

-- a page of data rows; a page of rows that name pages
abbrev pub Leaf : Type 0
Leaf = Node Payload

abbrev pub Index : Type 0
Index = Node ℕ

-- the levels above the leaves, the root's first, and the leaves
pub record Tree : Type 0 where
  pub above : List (List Index)
  pub leaves : List Leaf

-- the keys of rows
abbrev pub keys_of : {V : Type 0} → List (Row V) → List ℕ
keys_of rows = map (λ row. row.key) rows

-- the key of the first row; none where there is no row
abbrev pub first_key : {V : Type 0} → List (Row V) → Option ℕ
first_key [] = None
first_key (row ∷ rows) = Some row.key

-- the pages of nodes
abbrev pub pages_of : {V : Type 0} → List (Node V) → List ℕ
pages_of nodes = map (λ node. node.page) nodes

-- the page of the first node; 0 where there is none
abbrev pub first_page : {V : Type 0} → List (Node V) → ℕ
first_page [] = 0
first_page (node ∷ nodes) = node.page

-- the rows of all nodes of a level, from left to right
abbrev pub rows_of : {V : Type 0} → List (Node V) → List (Row V)
rows_of nodes = flat_map (λ node. node.rows) nodes

-- nodes behind page before: each names the node before it as prev, and the one behind it as next
abbrev pub IsLinked : {V : Type 0} → ℕ → List (Node V) → Type 0
IsLinked before [] = Unit {0}
IsLinked before (node ∷ nodes) = (node.prev ≡ before) × (node.next ≡ first_page nodes) × IsLinked node.page nodes

-- a key below high, where there is one
abbrev pub IsBelow : ℕ → Option ℕ → Type 0
IsBelow key None = Unit {0}
IsBelow key (Some high) = key < high

-- keys that rise strictly, from low on and below high
abbrev pub Rises : ℕ → Option ℕ → List ℕ → Type 0
Rises low high [] = Unit {0}
Rises low high (key ∷ keys) = (low ≤ key) × IsBelow key high × Rises (suc key) high keys

-- the page that a row of the level above names: its keys are from the row's key on, and below the key of the row
-- behind that one
pub record IsUnder {V : Type 0} (row : Row ℕ) (high : Option ℕ) (node : Node V) : Type 0 where
  pub page : row.value ≡ node.page
  pub keys : Rises row.key high (keys_of node.rows)

-- an index page has a row, and its first key is that of the row above; a leaf may have no row
pub record IsIndexUnder (row : Row ℕ) (high : Option ℕ) (node : Index) : Type 0 where
  pub under : IsUnder row high node
  pub first : first_key node.rows ≡ Some row.key

-- the nodes are those that the rows of the level above name, one for each row
abbrev pub AreUnder : {V : Type 0} → (Row ℕ → Option ℕ → Node V → Type 0) → List (Row ℕ) → List (Node V) → Type 0
AreUnder Is [] [] = Unit {0}
AreUnder Is [] (node ∷ nodes) = ⊥
AreUnder Is (row ∷ rows) [] = ⊥
AreUnder Is (row ∷ rows) (node ∷ nodes) = Is row (first_key rows) node × AreUnder Is rows nodes

-- the levels under rows that name the nodes of the first of them
abbrev pub AreLevels : List (Row ℕ) → List (List Index) → List Leaf → Type 0
AreLevels rows [] leaves = AreUnder IsUnder rows leaves × IsLinked 0 leaves
AreLevels rows (nodes ∷ more) leaves = AreUnder IsIndexUnder rows nodes × IsLinked 0 nodes × AreLevels (rows_of nodes) more leaves

-- the pages of all levels
abbrev pub pages_above : List (List Index) → List ℕ
pages_above levels = flat_map pages_of levels

abbrev pub tree_pages : Tree → List ℕ
tree_pages tree = pages_above tree.above ++ pages_of tree.leaves

-- no page twice
abbrev pub AreDistinct : List ℕ → Type 0
AreDistinct [] = Unit {0}
AreDistinct (page ∷ pages) = (Contains pages page → ⊥) × AreDistinct pages

-- the row by which the catalog names a root
abbrev pub root_row : ℕ → Row ℕ
root_row root = record { key = 0; value = root }

-- the tree has its root in this page, no page twice and none of number 0, and at most 16 levels
pub record IsTree (root : ℕ) (tree : Tree) : Type 0 where
  pub levels : AreLevels (root_row root ∷ []) tree.above tree.leaves
  pub distinct : AreDistinct (tree_pages tree)
  pub nonzero : Contains (tree_pages tree) 0 → ⊥
  pub height : length tree.above ≤ 15
