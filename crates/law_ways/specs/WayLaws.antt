-- Where the way towards a key leads, and that it is read from the pages that show the tree.
use Rattle.std.specs.Prelude.{◌≡◌, ◌⊎◌, ◌<◌, ◌≤◌, ℕ, suc, List, [], ◌∷◌, ◌++◌, length, Some}
use Rattle.spec_levels.specs.Levels.{Row, Index, Leaf, Tree, IsTree}
use Rattle.spec_ways.specs.Rows.{contents, value_at, value_found}
use Rattle.spec_ways.specs.Ways.{row_toward, Way, way_to, way_pages}
use Rattle.spec_ways.specs.Walk.{first_leaf, leaves_from}
use Rattle.spec_levels.specs.Pages.{LeafPage, IndexPage}
use Rattle.spec_ways.specs.Pages.{Pages, Shows, read_way, asked_pages}

-- rows whose keys are all above this one
abbrev pub AreAbove : ℕ → List (Row ℕ) → Type 0
AreAbove key [] = Unit {0}
AreAbove key (row ∷ rows) = (key < row.key) × AreAbove key rows

-- a row among rows: those behind it are above the key, and the row isn't, or no row is before it
pub record IsLastNotAbove (key : ℕ) (rows : List (Row ℕ)) (row : Row ℕ) : Type 0 where
  pub front : List (Row ℕ)
  pub back : List (Row ℕ)
  pub rows_are : rows ≡ front ++ row ∷ back
  pub above : AreAbove key back
  pub not_above : (row.key ≤ key) ⊎ (front ≡ [])

-- that is the row towards the key, whether the keys of the rows rise or not
abbrev pub RowsLead : Type 0
RowsLead = (key : ℕ) (row : Row ℕ) (rest : List (Row ℕ)) → IsLastNotAbove key (row ∷ rest) (row_toward key (row ∷ rest))

-- the way towards a key has a page of each level, and its leaf holds what the tree holds at the key, where a search by
-- places finds it
pub record Leads (root key : ℕ) (tree : Tree) : Type 0 where
  pub way : Way
  pub is : way_to root tree key ≡ Some way
  pub long : length way.above ≡ length tree.above
  pub holds : value_at key way.leaf.rows ≡ value_at key (contents tree)
  pub found : value_found key way.leaf.rows ≡ value_at key (contents tree)

abbrev pub WaysLead : Type 0
WaysLead = (root key : ℕ) (tree : Tree) → IsTree root tree → Leads root key tree

-- each page of a way is shown, an index page with the number of levels below it
abbrev pub ShowsWay : Pages → List Index → Leaf → Type 0
ShowsWay image [] leaf = image leaf.page ≡ LeafPage leaf
ShowsWay image (node ∷ way) leaf = (image node.page ≡ IndexPage (suc (length way)) node) × ShowsWay image way leaf

-- the way read from an image, and the pages that are asked for it in order
pub record IsRead (root key : ℕ) (image : Pages) (way : Way) : Type 0 where
  pub read : read_way 15 key image root ≡ Some way
  pub asked : asked_pages 15 key image root ≡ way_pages way
  pub shown : ShowsWay image way.above way.leaf

-- where the pages of an image show a tree, the way that is read is the tree's, and its pages are asked from the root down
abbrev pub WaysAreRead : Type 0
WaysAreRead = (root key : ℕ) (tree : Tree) (image : Pages) (way : Way) → IsTree root tree → Shows image tree.above tree.leaves → way_to root tree key ≡ Some way → IsRead root key image way

-- an image shows at most one tree with this root
abbrev pub OneTree : Type 0
OneTree = (root : ℕ) (tree other : Tree) (image : Pages) → IsTree root tree → IsTree root other → Shows image tree.above tree.leaves → Shows image other.above other.leaves → tree ≡ other

-- where the pages of an image show a tree, the walk finds its first leaf, and from there all leaves in order
pub record IsWalked (root limit : ℕ) (tree : Tree) (image : Pages) : Type 0 where
  pub leaf : Leaf
  pub first : first_leaf 15 image root ≡ Some leaf
  pub leaves : leaves_from limit image leaf.page ≡ tree.leaves

abbrev pub LeavesAreWalked : Type 0
LeavesAreWalked = (root limit : ℕ) (tree : Tree) (image : Pages) → IsTree root tree → Shows image tree.above tree.leaves → length tree.leaves ≤ limit → IsWalked root limit tree image
