-- What a delete makes of a tree, which pages it changes and which it frees, and what it writes.
use Rattle.std.specs.Prelude.{◌≡◌, ◌↔◌, ℕ, List, [], ◌∷◌, ◌++◌, Contains, Option, Some, None}
use Rattle.spec_levels.specs.Levels.{Index, Tree, tree_pages, AreDistinct, IsTree}
use Rattle.spec_ways.specs.Rows.{without, value_at, contents}
use Rattle.spec_ways.specs.Ways.{Way, way_to, way_pages}
use Rattle.spec_ways.specs.Delete.{Shrunk, lowered, deleted}
use Rattle.spec_ways.specs.Sinks.{Loss, Sink, sink_of, edge_below, IsSunk, AreSunk}
use Rattle.spec_ways.specs.Pages.{Pages, Shows, AgreeOn}
use Rattle.spec_ways.specs.DeleteWrites.{left_edge, delete_written, delete_reads, delete_frees}

-- the tree without the row is a tree, with the other rows; it has no page that the tree before hasn't
pub record IsDeleted (root key : ℕ) (tree now : Tree) : Type 0 where
  pub is_tree : IsTree root now
  pub contents : contents now ≡ without key (contents tree)
  pub fewer : (page : ℕ) → Contains (tree_pages now) page → Contains (tree_pages tree) page

abbrev pub DeleteKeeps : Type 0
DeleteKeeps = (root key : ℕ) (tree : Tree) → IsTree root tree → IsDeleted root key tree (deleted root key tree)

-- the key is held no more, and what other keys hold stays; so do all rows where the key wasn't held
pub record IsTakenOut (key : ℕ) (tree now : Tree) : Type 0 where
  pub none : value_at key (contents now) ≡ None
  pub others : (other : ℕ) → (other ≡ key → ⊥) → value_at other (contents now) ≡ value_at other (contents tree)
  pub same : value_at key (contents tree) ≡ None → contents now ≡ contents tree

abbrev pub DeleteTakes : Type 0
DeleteTakes = (root key : ℕ) (tree : Tree) → IsTree root tree → IsTakenOut key tree (deleted root key tree)

-- along a way: of each level the page of the way has its loss and nothing else changes but its neighbours where it goes;
-- then a root that is left without rows or with one is lowered
pub record IsSunkTree (root : ℕ) (way : Way) (sink : Sink) (tree now : Tree) : Type 0 where
  pub levels : Shrunk
  pub above_losses : AreSunk None way.above sink.above tree.above levels.above
  pub leaf_loss : IsSunk way.leaf sink.leaf None tree.leaves levels.leaves
  pub ends : now ≡ lowered root levels sink.gone_key

abbrev pub DeleteSinks : Type 0
DeleteSinks = (root key : ℕ) (tree : Tree) (way : Way) → IsTree root tree → way_to root tree key ≡ Some way → IsSunkTree root way (sink_of key way) tree (deleted root key tree)

-- what a sink along a way writes shows the tree after, and no page changes that wasn't the tree's; the pages that are
-- freed are those of the tree before that it has no more, each once
pub record IsDeleteWritten (root : ℕ) (way : Way) (sink : Sink) (image : Pages) (tree now : Tree) : Type 0 where
  pub shows : Shows (delete_written root way sink sink.gone_key image) now.above now.leaves
  pub same : (page : ℕ) → (Contains (tree_pages tree) page → ⊥) → delete_written root way sink sink.gone_key image page ≡ image page
  pub pages_are : (page : ℕ) → Contains (tree_pages tree) page ↔ Contains (tree_pages now ++ delete_frees root way sink image) page
  pub apart : AreDistinct (tree_pages now ++ delete_frees root way sink image)

-- where the pages of an image show the tree
abbrev pub DeleteIsWritten : Type 0
DeleteIsWritten = (root key : ℕ) (tree : Tree) (image : Pages) (way : Way) → IsTree root tree → Shows image tree.above tree.leaves → way_to root tree key ≡ Some way
    → IsDeleteWritten root way (sink_of key way) image tree (deleted root key tree)

-- the next of each index page that goes below a page that keeps rows and lost the first
abbrev pub edge_nexts : Option ℕ → List Index → List (Loss ℕ) → List ℕ
edge_nexts edge [] losses = []
edge_nexts edge (node ∷ way) [] = []
edge_nexts None (node ∷ way) (lost ∷ losses) = edge_nexts (edge_below None lost) way losses
edge_nexts (Some key) (node ∷ way) (lost ∷ losses) = node.next ∷ edge_nexts (edge_below (Some key) lost) way losses

-- the page that a new first row names is the next of the page that goes: a delete finds the left edge by first rows, on any
-- image, and where the image shows a tree these are the nexts
abbrev pub LeftEdgeIsNext : Type 0
LeftEdgeIsNext = (root key : ℕ) (tree : Tree) (image : Pages) (way : Way) → IsTree root tree → Shows image tree.above tree.leaves → way_to root tree key ≡ Some way
    → left_edge image way.above (sink_of key way).above ≡ edge_nexts None way.above (sink_of key way).above

-- what a delete leaves in a page depends on that page and on those that it reads, and which pages it frees on these alone
pub record DeletesAlike (root : ℕ) (way : Way) (sink : Sink) (image other : Pages) : Type 0 where
  pub written : (page : ℕ) → image page ≡ other page → delete_written root way sink sink.gone_key image page ≡ delete_written root way sink sink.gone_key other page
  pub frees : delete_frees root way sink image ≡ delete_frees root way sink other

abbrev pub DeleteIsLocal : Type 0
DeleteIsLocal = (root : ℕ) (way : Way) (sink : Sink) (image other : Pages) → Contains (way_pages way) root → AgreeOn (delete_reads root way sink image) image other
    → DeletesAlike root way sink image other

-- pages that a delete doesn't read stay
abbrev pub DeleteKeepsOthers : Type 0
DeleteKeepsOthers = (root : ℕ) (way : Way) (sink : Sink) (image : Pages) → Contains (way_pages way) root
    → (page : ℕ) → (Contains (delete_reads root way sink image) page → ⊥) → delete_written root way sink sink.gone_key image page ≡ image page
