-- A row put into a tree: its leaf takes it, and where the rows of a page are cut in two, a new page right of it takes the
-- second part and the level above takes a row for that page.
use Rattle.std.specs.Prelude.{◌≡◌, ◌<◌, ◌≤◌, ◌+◌, ℕ, List, [], ◌∷◌, ◌++◌, length, take, drop, get_or, Contains, Option, Some, None, if◌then◌else◌}
use Rattle.spec_levels.specs.Levels.{Payload, Row, Node, Index, Leaf, Tree, rows_of, first_page, root_row, tree_pages, AreDistinct}
use Rattle.spec_ways.specs.Rows.{with_row, is_below_first, lowest_key}

-- these nodes, each with the node before it as prev, and the one behind it as next
abbrev pub linked : {V : Type 0} → ℕ → List (Node V) → List (Node V)
linked before [] = []
linked before (node ∷ nodes) = record { page = node.page; prev = before; next = first_page nodes; rows = node.rows } ∷ linked node.page nodes

-- where the rows of a page are cut in two: behind the first so many of them; none where the page keeps them all
abbrev pub Cut : Type 0 → Type 0
Cut V = List (Row V) → Option ℕ

-- each of the two parts has a row
abbrev pub IsCut : {V : Type 0} → Cut V → Type 0
IsCut {V = V} cut = (rows : List (Row V)) (kept : ℕ) → cut rows ≡ Some kept → (0 < kept) × (kept < length rows)

pub record Cuts : Type 0 where
  pub leaf : Cut Payload
  pub index : Cut ℕ

-- the nodes of a level, and its separator: the row for the level above that names the new page where one was split
pub record Put (V : Type 0) : Type 0 where
  pub nodes : List (Node V)
  pub separator : Option (Row ℕ)

-- a page with these rows, before nodes; where the rows are cut, the page keeps the first of them and a new page right of
-- it has the others
abbrev pub cut_page : {V : Type 0} → Option ℕ → ℕ → Node V → List (Row V) → List (Node V) → Put V
cut_page None right node rows nodes = record { nodes = record { page = node.page; prev = node.prev; next = node.next; rows = rows } ∷ nodes; separator = None }
cut_page (Some kept) right node rows nodes = record {
  nodes = record { page = node.page; prev = node.prev; next = right; rows = take kept rows }
      ∷ record { page = right; prev = node.page; next = node.next; rows = drop kept rows } ∷ nodes;
  separator = Some (record { key = lowest_key (drop kept rows); value = right });
}

abbrev pub before_put : {V : Type 0} → Node V → Put V → Put V
before_put node put = record { nodes = node ∷ put.nodes; separator = put.separator }

-- the row put into the page of a level where its key belongs; `above` are the rows that name the pages of the level
abbrev pub put_row : {V : Type 0} → Cut V → ℕ → Row V → List (Row ℕ) → List (Node V) → Put V
put_row cut right row [] nodes = record { nodes = nodes; separator = None }
put_row cut right row (above ∷ rest) [] = record { nodes = []; separator = None }
put_row cut right row (above ∷ rest) (node ∷ nodes) =
    if is_below_first row.key rest then cut_page (cut (with_row row node.rows)) right node (with_row row node.rows) nodes
    else before_put node (put_row cut right row rest nodes)

-- levels into which a row was put, the separator of the first of them, and the new pages that no split took
pub record Grown : Type 0 where
  pub above : List (List Index)
  pub leaves : List Leaf
  pub separator : Option (Row ℕ)
  pub fresh : List ℕ

-- the new page that a split takes
abbrev pub first_fresh : List ℕ → ℕ
first_fresh fresh = get_or fresh 0 0

-- the new pages behind it, where there was a split
abbrev pub left_over : Option (Row ℕ) → List ℕ → List ℕ
left_over None fresh = fresh
left_over (Some separator) fresh = drop 1 fresh

-- a level takes the separator of the levels below it
abbrev pub with_separator : Cut ℕ → List (Row ℕ) → List Index → Grown → Option (Row ℕ) → Grown
with_separator cut rows nodes below None = record { above = nodes ∷ below.above; leaves = below.leaves; separator = None; fresh = below.fresh }
with_separator cut rows nodes below (Some separator) =
    let put = put_row cut (first_fresh below.fresh) separator rows nodes in
    record { above = linked 0 put.nodes ∷ below.above; leaves = below.leaves; separator = put.separator; fresh = left_over put.separator below.fresh }

-- the row put into its leaf, and from there upwards each separator into the level above
abbrev pub grown : Cuts → List ℕ → Row Payload → List (Row ℕ) → List (List Index) → List Leaf → Grown
grown cuts fresh row rows [] leaves =
    let put = put_row cuts.leaf (first_fresh fresh) row rows leaves in
    record { above = []; leaves = linked 0 put.nodes; separator = put.separator; fresh = left_over put.separator fresh }
grown cuts fresh row rows (nodes ∷ more) leaves =
    let below = grown cuts fresh row (rows_of nodes) more leaves in with_separator cuts.index rows nodes below below.separator

-- these nodes in other pages
abbrev pub renumbered : {V : Type 0} → List ℕ → List (Node V) → List (Node V)
renumbered [] nodes = nodes
renumbered (page ∷ pages) [] = []
renumbered (page ∷ pages) (node ∷ nodes) = record { page = page; prev = node.prev; next = node.next; rows = node.rows } ∷ renumbered pages nodes

-- the highest of these levels in other pages
abbrev pub top_renumbered : List ℕ → List (List Index) → List Leaf → Tree
top_renumbered pages [] leaves = record { above = []; leaves = linked 0 (renumbered pages leaves) }
top_renumbered pages (nodes ∷ more) leaves = record { above = linked 0 (renumbered pages nodes) ∷ more; leaves = leaves }

-- where the root was split, its halves go to two new pages, and the root, one level higher, names them
abbrev pub raised : ℕ → Grown → Option (Row ℕ) → Tree
raised root levels None = record { above = levels.above; leaves = levels.leaves }
raised root levels (Some separator) =
    let right = first_fresh levels.fresh in
    let halves = top_renumbered (separator.value ∷ right ∷ []) levels.above levels.leaves in
    let top : Index = record { page = root; prev = 0; next = 0; rows = root_row separator.value ∷ record { key = separator.key; value = right } ∷ [] } in
    record { above = (top ∷ []) ∷ halves.above; leaves = halves.leaves }

-- the rows that name the root's level
abbrev pub root_rows : ℕ → List (Row ℕ)
root_rows root = root_row root ∷ []

-- the tree with the row; it stands for one with its key
abbrev pub inserted : Cuts → List ℕ → ℕ → Row Payload → Tree → Tree
inserted cuts fresh root row tree = let levels = grown cuts fresh row (root_rows root) tree.above tree.leaves in raised root levels levels.separator

-- new pages for a tree: enough for a split of each level and a second page for the root's, each once, none of them 0 or
-- one of the tree
pub record AreFresh (fresh : List ℕ) (tree : Tree) : Type 0 where
  pub enough : length tree.above + 2 ≤ length fresh
  pub distinct : AreDistinct (fresh ++ tree_pages tree)
  pub nonzero : Contains fresh 0 → ⊥
