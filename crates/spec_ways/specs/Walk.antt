-- The walk through the leaves of a table: down along first rows to a leaf, then along the nexts, as the pages of an image
-- tell them.
use Rattle.std.specs.Prelude.{ℕ, zero, suc, List, [], ◌∷◌, Option, Some, None, ◌==◌, if◌then◌else◌}
use Rattle.spec_levels.specs.Levels.{Leaf}
use Rattle.spec_ways.specs.Rows.{first_value}
use Rattle.spec_levels.specs.Pages.{Page, LeafPage, IndexPage}
use Rattle.spec_ways.specs.Pages.{Pages}

abbrev pub leaf_below : (ℕ → Option Leaf) → Page → Option Leaf
leaf_below below (LeafPage leaf) = Some leaf
leaf_below below (IndexPage level node) = below (first_value node.rows)

abbrev pub no_leaf : ℕ → Option Leaf
no_leaf page = None

-- the leaf from a page down along first rows, through at most so many index pages; none where there are more
abbrev pub first_leaf : ℕ → Pages → ℕ → Option Leaf
first_leaf zero image page = leaf_below no_leaf (image page)
first_leaf (suc limit) image page = leaf_below (first_leaf limit image) (image page)

abbrev pub leaves_behind : (ℕ → List Leaf) → Page → List Leaf
leaves_behind behind (LeafPage leaf) = leaf ∷ behind leaf.next
leaves_behind behind (IndexPage level node) = []

-- the leaves from a page on along the nexts, at most so many; page 0 is none
abbrev pub leaves_from : ℕ → Pages → ℕ → List Leaf
leaves_from zero image page = []
leaves_from (suc limit) image page = if page == 0 then [] else leaves_behind (leaves_from limit image) (image page)
