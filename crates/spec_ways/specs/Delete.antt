-- A row taken from a tree: a page that is left without rows goes, and so does the row of the level above that names it;
-- where that row was the first of its page, the row behind it takes its key.
use Rattle.std.specs.Prelude.{ℕ, List, [], ◌∷◌, length, Option, Some, None, ◌==◌, if◌then◌else◌}
use Rattle.spec_levels.specs.Levels.{Payload, Row, Node, Index, Leaf, Tree, rows_of}
use Rattle.spec_ways.specs.Rows.{without, with_first_key, is_below_first}
use Rattle.spec_ways.specs.Insert.{linked, top_renumbered, root_rows}

-- the nodes of a level, and where one of them went the key of the row that named it
pub record Taken (V : Type 0) : Type 0 where
  pub nodes : List (Node V)
  pub gone_key : Option ℕ

-- a page with these rows, before nodes; without rows it goes
abbrev pub kept_page : {V : Type 0} → ℕ → Node V → List (Row V) → List (Node V) → Taken V
kept_page key node [] nodes = record { nodes = nodes; gone_key = Some key }
kept_page key node (row ∷ rows) nodes = record { nodes = record { page = node.page; prev = node.prev; next = node.next; rows = row ∷ rows } ∷ nodes; gone_key = None }

abbrev pub before_taken : {V : Type 0} → Node V → Taken V → Taken V
before_taken node taken = record { nodes = node ∷ taken.nodes; gone_key = taken.gone_key }

-- the page of a level where the key belongs with rows changed; the change is told the key of the row that names the page
abbrev pub take_row : {V : Type 0} → (ℕ → List (Row V) → List (Row V)) → ℕ → List (Row ℕ) → List (Node V) → Taken V
take_row change key [] nodes = record { nodes = nodes; gone_key = None }
take_row change key (above ∷ rest) [] = record { nodes = []; gone_key = None }
take_row change key (above ∷ rest) (node ∷ nodes) =
    if is_below_first key rest then kept_page above.key node (change above.key node.rows) nodes else before_taken node (take_row change key rest nodes)

-- a leaf loses the row with the key
abbrev pub leaf_without : ℕ → ℕ → List (Row Payload) → List (Row Payload)
leaf_without key first rows = without key rows

-- so does an index page, whose first row then has the first key of the page
abbrev pub index_without : ℕ → ℕ → List (Row ℕ) → List (Row ℕ)
index_without key first rows = with_first_key first (without key rows)

-- each node begins with the key of the row that names it
abbrev pub with_first_keys : {V : Type 0} → List (Row ℕ) → List (Node V) → List (Node V)
with_first_keys [] nodes = nodes
with_first_keys (row ∷ rows) [] = []
with_first_keys (row ∷ rows) (node ∷ nodes) = record { page = node.page; prev = node.prev; next = node.next; rows = with_first_key row.key node.rows } ∷ with_first_keys rows nodes

-- and so on down to the lowest level of index pages
abbrev pub with_left_edges : List (Row ℕ) → List (List Index) → List (List Index)
with_left_edges rows [] = []
with_left_edges rows (nodes ∷ more) = let now = with_first_keys rows nodes in now ∷ with_left_edges (rows_of now) more

-- levels from which a row was taken, and the key of the row that named a page of the first of them, where that page went
pub record Shrunk : Type 0 where
  pub above : List (List Index)
  pub leaves : List Leaf
  pub gone_key : Option ℕ

-- the levels below a level that lost a row: where no page of it went, first keys are brought down the left edge
abbrev pub below_loss : Option ℕ → List (Row ℕ) → List (List Index) → List (List Index)
below_loss None rows below = with_left_edges rows below
below_loss (Some key) rows below = below

-- a level loses the row that named the page that went below it
abbrev pub without_separator : List (Row ℕ) → List Index → Shrunk → Option ℕ → Shrunk
without_separator rows nodes below None = record { above = nodes ∷ below.above; leaves = below.leaves; gone_key = None }
without_separator rows nodes below (Some key) =
    let taken = take_row (index_without key) key rows nodes in
    record { above = linked 0 taken.nodes ∷ below_loss taken.gone_key (rows_of taken.nodes) below.above; leaves = below.leaves; gone_key = taken.gone_key }

-- the row taken from its leaf, and from there upwards the rows that named pages that went
abbrev pub shrunk : ℕ → List (Row ℕ) → List (List Index) → List Leaf → Shrunk
shrunk key rows [] leaves = let taken = take_row (leaf_without key) key rows leaves in record { above = []; leaves = linked 0 taken.nodes; gone_key = taken.gone_key }
shrunk key rows (nodes ∷ more) leaves = let below = shrunk key (rows_of nodes) more leaves in without_separator rows nodes below below.gone_key

-- a level with one row goes, as often as the level below has one row too
abbrev pub collapsed : List (List Index) → List Leaf → Tree
collapsed [] leaves = record { above = []; leaves = leaves }
collapsed (nodes ∷ more) leaves = if length (rows_of nodes) == 1 then collapsed more leaves else record { above = nodes ∷ more; leaves = leaves }

-- a root without rows is a leaf without rows; a root with one row takes what its child has, in the root's page
abbrev pub lowered : ℕ → Shrunk → Option ℕ → Tree
lowered root levels (Some key) = record { above = []; leaves = record { page = root; prev = 0; next = 0; rows = [] } ∷ [] }
lowered root levels None = let rest = collapsed levels.above levels.leaves in top_renumbered (root ∷ []) rest.above rest.leaves

-- the tree without the row that has this key
abbrev pub deleted : ℕ → ℕ → Tree → Tree
deleted root key tree = let levels = shrunk key (root_rows root) tree.above tree.leaves in lowered root levels levels.gone_key
