-- What becomes of the pages of a way where a row is taken from its leaf, told by these pages alone.
use Rattle.std.specs.Prelude.{◌≡◌, ℕ, List, [], ◌∷◌, ◌++◌, Option, Some, None, if◌then◌else◌}
use Rattle.spec_levels.specs.Levels.{Payload, Row, Node, Index, Leaf, first_page}
use Rattle.spec_ways.specs.Rows.{without, lowest_key, with_first_key}
use Rattle.spec_ways.specs.Ways.{Way, key_toward, are_above, without_toward}
use Rattle.spec_ways.specs.Climbs.{with_first_prev}

-- a page is untouched, keeps these rows, or has none left and goes; with the rows that are kept stands the key that goes
-- down the left edge below, where the row that was lost was the first
pub data Loss (V : Type 0) : Type 0 where
  Untouched : Loss V
  Keeps : List (Row V) → Option ℕ → Loss V
  Goes : Loss V

abbrev pub loss_of : {V : Type 0} → List (Row V) → Option ℕ → Loss V
loss_of [] edge = Goes
loss_of (row ∷ rows) edge = Keeps (row ∷ rows) edge

-- the key of the row that named a page that goes
abbrev pub gone_key_of : {V : Type 0} → ℕ → Loss V → Option ℕ
gone_key_of key Untouched = None
gone_key_of key (Keeps rows edge) = None
gone_key_of key Goes = Some key

-- the key of the row towards this key, where that is the first row
abbrev pub edge_of : ℕ → List (Row ℕ) → Option ℕ
edge_of key [] = None
edge_of key (row ∷ rest) = if are_above key rest then Some row.key else None

-- the losses of a way's pages, the highest first, and the key of the row that named the first where that goes
pub record Sink : Type 0 where
  pub above : List (Loss ℕ)
  pub leaf : Loss Payload
  pub gone_key : Option ℕ

-- where the page below goes, the row towards the key goes; where that is the first, the row behind it takes its key
abbrev pub sink_through : ℕ → ℕ → Index → Sink → Option ℕ → Sink
sink_through first key node below None = record { above = Untouched ∷ below.above; leaf = below.leaf; gone_key = None }
sink_through first key node below (Some gone) =
    let loss = loss_of (with_first_key (lowest_key node.rows) (without_toward key node.rows)) (edge_of key node.rows) in
    record { above = loss ∷ below.above; leaf = below.leaf; gone_key = gone_key_of first loss }

-- from the leaf upwards, given the key of the row that names the first page of the way
abbrev pub sink : ℕ → ℕ → List Index → Leaf → Sink
sink first key [] leaf = let loss = loss_of (without key leaf.rows) None in record { above = []; leaf = loss; gone_key = gone_key_of first loss }
sink first key (node ∷ above) leaf = let below = sink (key_toward key node.rows) key above leaf in sink_through first key node below below.gone_key

-- of a whole way: the catalog's row names the root
abbrev pub sink_of : ℕ → Way → Sink
sink_of key way = sink 0 key way.above way.leaf

-- these nodes, the last with this page as next
abbrev pub with_last_next : {V : Type 0} → ℕ → List (Node V) → List (Node V)
with_last_next next [] = []
with_last_next next (node ∷ []) = record { page = node.page; prev = node.prev; next = next; rows = node.rows } ∷ []
with_last_next next (node ∷ other ∷ nodes) = node ∷ with_last_next next (other ∷ nodes)

-- these nodes, the first on the left edge: it begins with the edge's key
abbrev pub with_edge : {V : Type 0} → Option ℕ → List (Node V) → List (Node V)
with_edge None nodes = nodes
with_edge (Some key) [] = []
with_edge (Some key) (node ∷ nodes) = record { page = node.page; prev = node.prev; next = node.next; rows = with_first_key key node.rows } ∷ nodes

-- a level after the loss of the page between left and right: where it goes, its prev and its next name each other, and
-- its next takes its place on the left edge
abbrev pub after_loss : {V : Type 0} → Loss V → Option ℕ → List (Node V) → Node V → List (Node V) → List (Node V)
after_loss Untouched edge left node right = left ++ node ∷ right
after_loss (Keeps rows below) edge left node right = left ++ record { page = node.page; prev = node.prev; next = node.next; rows = rows } ∷ right
after_loss Goes edge left node right = with_last_next (first_page right) left ++ with_first_prev node.prev (with_edge edge right)

-- a level in which this page has the loss, and nothing else changes
pub record IsSunk {V : Type 0} (node : Node V) (loss : Loss V) (edge : Option ℕ) (before now : List (Node V)) : Type 0 where
  pub left : List (Node V)
  pub right : List (Node V)
  pub was : before ≡ left ++ node ∷ right
  pub is : now ≡ after_loss loss edge left node right

-- the key of the left edge one level lower
abbrev pub edge_below : {V : Type 0} → Option ℕ → Loss V → Option ℕ
edge_below edge Untouched = None
edge_below edge (Keeps rows below) = below
edge_below edge Goes = edge

-- one page of each level
abbrev pub AreSunk : Option ℕ → List Index → List (Loss ℕ) → List (List Index) → List (List Index) → Type 0
AreSunk edge [] [] [] [] = Unit {0}
AreSunk edge (node ∷ way) (loss ∷ losses) (before ∷ more) (now ∷ rest) = IsSunk node loss edge before now × AreSunk (edge_below edge loss) way losses more rest
AreSunk edge way losses more rest = ⊥

-- the page where it goes
abbrev pub freed_page : {V : Type 0} → Loss V → Node V → List ℕ
freed_page Untouched node = []
freed_page (Keeps rows below) node = []
freed_page Goes node = node.page ∷ []

-- the pages of a way that go, from the leaf upwards
abbrev pub freed_pages : List Index → List (Loss ℕ) → Leaf → Loss Payload → List ℕ
freed_pages [] losses leaf loss = freed_page loss leaf
freed_pages (node ∷ way) [] leaf loss = []
freed_pages (node ∷ way) (lost ∷ losses) leaf loss = freed_pages way losses leaf loss ++ freed_page lost node

-- those of a whole way: the root stays
abbrev pub freed_below_root : List Index → List (Loss ℕ) → Leaf → Loss Payload → List ℕ
freed_below_root [] losses leaf loss = []
freed_below_root (node ∷ way) [] leaf loss = []
freed_below_root (node ∷ way) (lost ∷ losses) leaf loss = freed_pages way losses leaf loss
