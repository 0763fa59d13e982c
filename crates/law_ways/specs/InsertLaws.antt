-- What an insert makes of a tree, which pages it changes and which new ones it takes, and what it writes.
use Rattle.std.specs.Prelude.{◌≡◌, ◌↔◌, ℕ, ◌+◌, ◌≤◌, List, ◌++◌, length, Contains, Some, None}
use Rattle.spec_levels.specs.Levels.{Payload, Row, Tree, keys_of, tree_pages, AreDistinct, IsTree}
use Rattle.spec_ways.specs.Rows.{with_row, value_at, contents}
use Rattle.spec_ways.specs.Ways.{Way, way_to, way_pages}
use Rattle.spec_ways.specs.Insert.{Cuts, IsCut, Grown, left_over, raised, inserted, AreFresh}
use Rattle.spec_ways.specs.Climbs.{Climb, climb_of, taken_pages, IsStepped, AreStepped}
use Rattle.spec_ways.specs.Pages.{Pages, Shows, AgreeOn}
use Rattle.spec_ways.specs.InsertWrites.{insert_written, insert_reads}

-- the tree with the row is a tree, unless it has too many levels; the row stands at its place among the rows of the tree
-- before; it has that tree's pages, and else new ones
pub record IsInserted (root : ℕ) (fresh : List ℕ) (row : Row Payload) (tree now : Tree) : Type 0 where
  pub is_tree : length now.above ≤ 15 → IsTree root now
  pub height : length now.above ≤ length tree.above + 1
  pub contents : contents now ≡ with_row row (contents tree)
  pub kept : (page : ℕ) → Contains (tree_pages tree) page → Contains (tree_pages now) page
  pub added : (page : ℕ) → Contains (tree_pages now) page → Contains (fresh ++ tree_pages tree) page

abbrev pub InsertKeeps : Type 0
InsertKeeps = (cuts : Cuts) (fresh : List ℕ) (root : ℕ) (row : Row Payload) (tree : Tree) → IsCut cuts.leaf → IsCut cuts.index → IsTree root tree → AreFresh fresh tree
    → IsInserted root fresh row tree (inserted cuts fresh root row tree)

-- an update is an insert of a row whose key is there: the row is replaced, and no other row changes
pub record IsUpdated (row : Row Payload) (tree now : Tree) : Type 0 where
  pub keys : keys_of (contents now) ≡ keys_of (contents tree)
  pub value : value_at row.key (contents now) ≡ Some row.value
  pub others : (key : ℕ) → (key ≡ row.key → ⊥) → value_at key (contents now) ≡ value_at key (contents tree)

abbrev pub UpdateReplaces : Type 0
UpdateReplaces = (cuts : Cuts) (fresh : List ℕ) (root : ℕ) (row : Row Payload) (tree : Tree) (old : Payload) → IsCut cuts.leaf → IsCut cuts.index → IsTree root tree → AreFresh fresh tree
    → value_at row.key (contents tree) ≡ Some old → IsUpdated row tree (inserted cuts fresh root row tree)

-- along a way: of each level the page of the way makes its step and nothing else changes; then a root that was split is
-- raised, and only then the tree has a level more. Its pages are those before and the new ones that are taken, which are
-- the first of the new ones
pub record IsClimbed (root : ℕ) (fresh : List ℕ) (way : Way) (climb : Climb) (tree now : Tree) : Type 0 where
  pub levels : Grown
  pub above_steps : AreStepped way.above climb.above tree.above levels.above
  pub leaf_steps : IsStepped way.leaf climb.leaf tree.leaves levels.leaves
  pub fresh_is : levels.fresh ≡ climb.fresh
  pub raises : now ≡ raised root levels climb.separator
  pub height : climb.separator ≡ None → length now.above ≡ length tree.above
  pub fresh_are : fresh ≡ taken_pages climb ++ left_over climb.separator climb.fresh
  pub pages_are : (page : ℕ) → Contains (tree_pages now) page ↔ Contains (taken_pages climb ++ tree_pages tree) page
  pub apart : AreDistinct (tree_pages now ++ left_over climb.separator climb.fresh)

abbrev pub InsertClimbs : Type 0
InsertClimbs = (cuts : Cuts) (fresh : List ℕ) (root : ℕ) (row : Row Payload) (tree : Tree) (way : Way) → IsCut cuts.leaf → IsCut cuts.index → IsTree root tree → AreFresh fresh tree
    → way_to root tree row.key ≡ Some way → IsClimbed root fresh way (climb_of cuts fresh row way) tree (inserted cuts fresh root row tree)

-- what a climb along a way writes shows the tree after, and no page changes that isn't one of that tree
pub record IsInsertWritten (root : ℕ) (way : Way) (climb : Climb) (image : Pages) (now : Tree) : Type 0 where
  pub shows : Shows (insert_written root way climb climb.separator image) now.above now.leaves
  pub same : (page : ℕ) → (Contains (tree_pages now) page → ⊥) → insert_written root way climb climb.separator image page ≡ image page

-- where the pages of an image show the tree
abbrev pub InsertIsWritten : Type 0
InsertIsWritten = (cuts : Cuts) (fresh : List ℕ) (root : ℕ) (row : Row Payload) (tree : Tree) (image : Pages) (way : Way) → IsCut cuts.leaf → IsCut cuts.index → IsTree root tree → AreFresh fresh tree
    → Shows image tree.above tree.leaves → way_to root tree row.key ≡ Some way → IsInsertWritten root way (climb_of cuts fresh row way) image (inserted cuts fresh root row tree)

-- what an insert leaves in a page depends on that page and on those that it reads
abbrev pub InsertIsLocal : Type 0
InsertIsLocal = (root : ℕ) (way : Way) (climb : Climb) (image other : Pages) → AgreeOn (insert_reads way climb) image other
    → (page : ℕ) → image page ≡ other page → insert_written root way climb climb.separator image page ≡ insert_written root way climb climb.separator other page

-- pages that an insert neither reads nor takes stay
abbrev pub InsertKeepsOthers : Type 0
InsertKeepsOthers = (root : ℕ) (way : Way) (climb : Climb) (image : Pages) → Contains (way_pages way) root
    → (page : ℕ) → (Contains (insert_reads way climb ++ taken_pages climb) page → ⊥) → insert_written root way climb climb.separator image page ≡ image page
