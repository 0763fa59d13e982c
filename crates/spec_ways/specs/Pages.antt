-- An image as pages of rows, when it shows the levels of a tree, and the way towards a key read from its pages.
use Rattle.std.specs.Prelude.{◌≡◌, ℕ, zero, suc, List, [], ◌∷◌, length, Contains, Option, Some, None, ◌==◌, if◌then◌else◌}
use Rattle.spec_levels.specs.Levels.{Node, Index, Leaf}
use Rattle.spec_levels.specs.Pages.{Page, LeafPage, IndexPage}
use Rattle.spec_ways.specs.Ways.{Way, child_toward, through}

-- an image: what each page holds, by its number
abbrev pub Pages : Type 0
Pages = ℕ → Page

-- each node is what its page holds
abbrev pub ShowsLevel : {V : Type 0} → (Node V → Page) → Pages → List (Node V) → Type 0
ShowsLevel kind image [] = Unit {0}
ShowsLevel kind image (node ∷ nodes) = (image node.page ≡ kind node) × ShowsLevel kind image nodes

-- so on each level; the level of an index page is the number of levels below it
abbrev pub Shows : Pages → List (List Index) → List Leaf → Type 0
Shows image [] leaves = ShowsLevel LeafPage image leaves
Shows image (nodes ∷ more) leaves = ShowsLevel (IndexPage (suc (length more))) image nodes × Shows image more leaves

-- two images that agree on these pages
abbrev pub AgreeOn : List ℕ → Pages → Pages → Type 0
AgreeOn pages image other = (page : ℕ) → Contains pages page → image page ≡ other page

-- the image with this in one page
abbrev pub with_page : ℕ → Page → Pages → Pages
with_page page now image = λ other. if other == page then now else image other

abbrev pub way_by : (ℕ → Option Way) → ℕ → Page → Option Way
way_by from key (LeafPage leaf) = Some (record { above = []; leaf = leaf })
way_by from key (IndexPage level node) = through node (from (child_toward key node.rows))

abbrev pub no_way : ℕ → Option Way
no_way page = None

-- the way towards a key as the pages of an image tell it, through at most so many index pages; none where there are more
abbrev pub read_way : ℕ → ℕ → Pages → ℕ → Option Way
read_way zero key image page = way_by no_way key (image page)
read_way (suc limit) key image page = way_by (read_way limit key image) key (image page)

abbrev pub asked_below : (ℕ → List ℕ) → ℕ → Page → List ℕ
asked_below asked key (LeafPage leaf) = []
asked_below asked key (IndexPage level node) = asked (child_toward key node.rows)

-- the pages that are asked for it, in order
abbrev pub asked_pages : ℕ → ℕ → Pages → ℕ → List ℕ
asked_pages zero key image page = page ∷ []
asked_pages (suc limit) key image page = page ∷ asked_below (asked_pages limit key image) key (image page)
