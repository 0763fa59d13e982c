-- What an insert reads and writes, told by its way and the steps of the way's pages.
use Rattle.std.specs.Prelude.{ℕ, suc, List, [], ◌∷◌, ◌++◌, length, Option, Some, None, ◌==◌, if◌then◌else◌}
use Rattle.spec_levels.specs.Levels.{Payload, Row, Node, Index, Leaf, root_row}
use Rattle.spec_ways.specs.Rows.{lowest_key}
use Rattle.spec_ways.specs.Ways.{Way, way_pages}
use Rattle.spec_ways.specs.Insert.{first_fresh}
use Rattle.spec_ways.specs.Climbs.{Step, Stays, Grows, Splits, Climb}
use Rattle.spec_levels.specs.Pages.{Page, LeafPage, IndexPage}
use Rattle.spec_ways.specs.Pages.{Pages, with_page}

abbrev pub page_with_prev : ℕ → Page → Page
page_with_prev prev (LeafPage leaf) = LeafPage (record { page = leaf.page; prev = prev; next = leaf.next; rows = leaf.rows })
page_with_prev prev (IndexPage level node) = IndexPage level (record { page = node.page; prev = prev; next = node.next; rows = node.rows })

-- this page has this prev; page 0 is none
abbrev pub prev_written : ℕ → ℕ → Pages → Pages
prev_written page prev image = if page == 0 then image else with_page page (page_with_prev prev (image page)) image

-- a page that is split keeps its first rows and its prev; the new page stands between it and its old next
abbrev pub step_written : {V : Type 0} → (Node V → Page) → Node V → Step V → Pages → Pages
step_written kind node Stays image = image
step_written kind node (Grows rows) image = with_page node.page (kind (record { page = node.page; prev = node.prev; next = node.next; rows = rows })) image
step_written kind node (Splits rows right more) image =
    prev_written node.next right (with_page right (kind (record { page = right; prev = node.page; next = node.next; rows = more }))
    (with_page node.page (kind (record { page = node.page; prev = node.prev; next = right; rows = rows })) image))

-- from the leaf upwards
abbrev pub steps_written : List Index → List (Step ℕ) → Leaf → Step Payload → Pages → Pages
steps_written [] steps leaf step image = step_written LeafPage leaf step image
steps_written (node ∷ way) [] leaf step image = image
steps_written (node ∷ way) (upper ∷ steps) leaf step image = step_written (IndexPage (suc (length way))) node upper (steps_written way steps leaf step image)

-- a root that is split: its halves go to two new pages, and the root, one level higher, names them
abbrev pub halves_written : {V : Type 0} → (Node V → Page) → ℕ → ℕ → ℕ → Step V → Pages → Pages
halves_written kind level root right Stays image = image
halves_written kind level root right (Grows rows) image = image
halves_written kind level root right (Splits rows left more) image =
    with_page root (IndexPage (suc level) (record { page = root; prev = 0; next = 0; rows = root_row left ∷ record { key = lowest_key more; value = right } ∷ [] }))
    (with_page right (kind (record { page = right; prev = left; next = 0; rows = more }))
    (with_page left (kind (record { page = left; prev = 0; next = right; rows = rows })) image))

-- below the root the steps, and then the halves of the root
abbrev pub raise_written : ℕ → ℕ → List Index → List (Step ℕ) → Leaf → Step Payload → Pages → Pages
raise_written root right [] steps leaf step image = halves_written LeafPage 0 root right step image
raise_written root right (node ∷ way) [] leaf step image = image
raise_written root right (node ∷ way) (upper ∷ steps) leaf step image =
    halves_written (IndexPage (suc (length way))) (suc (length way)) root right upper (steps_written way steps leaf step image)

-- the image after an insert along this way
abbrev pub insert_written : ℕ → Way → Climb → Option (Row ℕ) → Pages → Pages
insert_written root way climb None image = steps_written way.above climb.above way.leaf climb.leaf image
insert_written root way climb (Some separator) image = raise_written root (first_fresh climb.fresh) way.above climb.above way.leaf climb.leaf image

-- the next of a page that is split, if it has one
abbrev pub split_next : {V : Type 0} → Step V → Node V → List ℕ
split_next Stays node = []
split_next (Grows rows) node = []
split_next (Splits rows right more) node = if node.next == 0 then [] else node.next ∷ []

abbrev pub split_nexts : List Index → List (Step ℕ) → List ℕ
split_nexts [] steps = []
split_nexts (node ∷ way) [] = []
split_nexts (node ∷ way) (step ∷ steps) = split_nexts way steps ++ split_next step node

-- an insert reads its way, and then from the leaf upwards the next of each page that is split
abbrev pub insert_reads : Way → Climb → List ℕ
insert_reads way climb = way_pages way ++ (split_next climb.leaf way.leaf ++ split_nexts way.above climb.above)
