-- What a delete reads, writes and frees, told by its way and the losses of the way's pages.
use Rattle.std.specs.Prelude.{ℕ, zero, suc, List, [], ◌∷◌, ◌++◌, length, Option, Some, None, ◌==◌, if◌then◌else◌}
use Rattle.spec_levels.specs.Levels.{Payload, Row, Node, Index, Leaf}
use Rattle.spec_ways.specs.Rows.{with_first_key, first_value}
use Rattle.spec_ways.specs.Ways.{Way, way_pages}
use Rattle.spec_ways.specs.Sinks.{Loss, Untouched, Keeps, Goes, Sink, freed_below_root}
use Rattle.spec_levels.specs.Pages.{Page, LeafPage, IndexPage}
use Rattle.spec_ways.specs.Pages.{Pages, with_page}
use Rattle.spec_ways.specs.InsertWrites.{prev_written}

abbrev pub page_with_next : ℕ → Page → Page
page_with_next next (LeafPage leaf) = LeafPage (record { page = leaf.page; prev = leaf.prev; next = next; rows = leaf.rows })
page_with_next next (IndexPage level node) = IndexPage level (record { page = node.page; prev = node.prev; next = next; rows = node.rows })

-- a page of the left edge begins with the edge's key
abbrev pub page_with_edge : Option ℕ → Page → Page
page_with_edge None page = page
page_with_edge (Some key) (LeafPage leaf) = LeafPage (record { page = leaf.page; prev = leaf.prev; next = leaf.next; rows = with_first_key key leaf.rows })
page_with_edge (Some key) (IndexPage level node) = IndexPage level (record { page = node.page; prev = node.prev; next = node.next; rows = with_first_key key node.rows })

-- this page has this next; page 0 is none
abbrev pub next_written : ℕ → ℕ → Pages → Pages
next_written page next image = if page == 0 then image else with_page page (page_with_next next (image page)) image

-- the prev and the next of a page that goes name each other
abbrev pub loss_written : {V : Type 0} → (Node V → Page) → Node V → Loss V → Pages → Pages
loss_written kind node Untouched image = image
loss_written kind node (Keeps rows edge) image = with_page node.page (kind (record { page = node.page; prev = node.prev; next = node.next; rows = rows })) image
loss_written kind node Goes image = next_written node.prev node.next (prev_written node.next node.prev image)

-- from the leaf upwards
abbrev pub losses_written : List Index → List (Loss ℕ) → Leaf → Loss Payload → Pages → Pages
losses_written [] losses leaf loss image = loss_written LeafPage leaf loss image
losses_written (node ∷ way) [] leaf loss image = image
losses_written (node ∷ way) (lost ∷ losses) leaf loss image = loss_written (IndexPage (suc (length way))) node lost (losses_written way losses leaf loss image)

abbrev pub first_child : Page → ℕ
first_child (LeafPage leaf) = 0
first_child (IndexPage level node) = first_value node.rows

-- so many index pages, from this one down along first rows
abbrev pub first_children : ℕ → Pages → ℕ → List ℕ
first_children zero image page = []
first_children (suc levels) image page = page ∷ first_children levels image (first_child (image page))

abbrev pub edge_from : ℕ → Pages → Loss ℕ → List ℕ → List ℕ
edge_from levels image Untouched below = below
edge_from levels image (Keeps rows None) below = below
edge_from levels image (Keeps rows (Some key)) below = first_children levels image (first_value rows)
edge_from levels image Goes below = below

-- the left edge, from above: where a page of the way keeps rows and lost the first, the index pages below it from the one
-- that its new first row names
abbrev pub left_edge : Pages → List Index → List (Loss ℕ) → List ℕ
left_edge image [] losses = []
left_edge image (node ∷ way) [] = []
left_edge image (node ∷ way) (lost ∷ losses) = edge_from (length way) image lost (left_edge image way losses)

abbrev pub edge_key_from : Loss ℕ → Option ℕ → Option ℕ
edge_key_from Untouched below = below
edge_key_from (Keeps rows None) below = below
edge_key_from (Keeps rows (Some key)) below = Some key
edge_key_from Goes below = below

-- the key that goes down it
abbrev pub edge_key : List (Loss ℕ) → Option ℕ
edge_key [] = None
edge_key (lost ∷ losses) = edge_key_from lost (edge_key losses)

-- each of these pages begins with the edge's key
abbrev pub edge_written : Option ℕ → List ℕ → Pages → Pages
edge_written key [] image = image
edge_written key (page ∷ pages) image = edge_written key pages (with_page page (page_with_edge key (image page)) image)

-- the image after the losses of a way, before a root collapses
abbrev pub sink_written : Way → Sink → Pages → Pages
sink_written way sink image = edge_written (edge_key sink.above) (left_edge image way.above sink.above) (losses_written way.above sink.above way.leaf sink.leaf image)

-- the page that an index page names where it has one row
abbrev pub only_value : List (Row ℕ) → Option ℕ
only_value [] = None
only_value (row ∷ []) = Some row.value
only_value (row ∷ other ∷ rest) = None

abbrev pub only_child : Page → Option ℕ
only_child (LeafPage leaf) = None
only_child (IndexPage level node) = only_value node.rows

abbrev pub last_from : (ℕ → ℕ) → ℕ → Option ℕ → ℕ
last_from below page None = page
last_from below page (Some child) = below child

-- the last page from this one down along index pages of one row, through at most so many
abbrev pub last_only_child : ℕ → Pages → ℕ → ℕ
last_only_child zero image page = page
last_only_child (suc limit) image page = last_from (last_only_child limit image) page (only_child (image page))

abbrev pub page_as_root : ℕ → Page → Page
page_as_root root (LeafPage leaf) = LeafPage (record { page = root; prev = 0; next = 0; rows = leaf.rows })
page_as_root root (IndexPage level node) = IndexPage level (record { page = root; prev = 0; next = 0; rows = node.rows })

-- the root has what the last of these pages has
abbrev pub collapse_written : ℕ → ℕ → Pages → Pages
collapse_written limit root image = with_page root (page_as_root root (image (last_only_child limit image root))) image

-- the image after a delete along this way; a root that goes too is a leaf without rows
abbrev pub delete_written : ℕ → Way → Sink → Option ℕ → Pages → Pages
delete_written root way sink None image = collapse_written (length way.above) root (sink_written way sink image)
delete_written root way sink (Some key) image = with_page root (LeafPage (record { page = root; prev = 0; next = 0; rows = [] })) image

-- prev and next of a page that goes, if it has them
abbrev pub neighbours : {V : Type 0} → Loss V → Node V → List ℕ
neighbours Untouched node = []
neighbours (Keeps rows below) node = []
neighbours Goes node = (if node.prev == 0 then [] else node.prev ∷ []) ++ (if node.next == 0 then [] else node.next ∷ [])

abbrev pub all_neighbours : List Index → List (Loss ℕ) → List ℕ
all_neighbours [] losses = []
all_neighbours (node ∷ way) [] = []
all_neighbours (node ∷ way) (lost ∷ losses) = all_neighbours way losses ++ neighbours lost node

abbrev pub only_children_from : (ℕ → List ℕ) → Option ℕ → List ℕ
only_children_from below None = []
only_children_from below (Some child) = child ∷ below child

-- the pages from the child of this one down along index pages of one row
abbrev pub only_children : ℕ → Pages → ℕ → List ℕ
only_children zero image page = []
only_children (suc limit) image page = only_children_from (only_children limit image) (only_child (image page))

-- the pages from the child of the root down that go where the root collapses
abbrev pub collapsed_children : ℕ → Way → Sink → Pages → Option ℕ → List ℕ
collapsed_children root way sink image None = only_children (length way.above) (sink_written way sink image) root
collapsed_children root way sink image (Some key) = []

-- a delete reads its way; from the leaf upwards prev and next of each page that goes; the left edge; and the children of a
-- root that collapses
abbrev pub delete_reads : ℕ → Way → Sink → Pages → List ℕ
delete_reads root way sink image =
    way_pages way ++ (neighbours sink.leaf way.leaf ++ (all_neighbours way.above sink.above ++ (left_edge image way.above sink.above
    ++ collapsed_children root way sink image sink.gone_key)))

-- it frees the pages of its way that go, and those children
abbrev pub delete_frees : ℕ → Way → Sink → Pages → List ℕ
delete_frees root way sink image = freed_below_root way.above sink.above way.leaf sink.leaf ++ collapsed_children root way sink image sink.gone_key
