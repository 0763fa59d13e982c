-- A clustered table at which no error of the rules of trees stands is a tree of levels, and what such a tree holds.
use Rattle.std.specs.Prelude.{◌≡◌, ◌↔◌, ℕ, None, List, map}
use Rattle.spec_levels.specs.Levels.{Tree, IsTree, Rises, keys_of, rows_of}
use Rattle.spec_levels.specs.Pages.{Page, IsTreeOf}
use Rattle.law_levels.specs.Known.{AreWellFormed, known_of, HasNoTreeErrors}
use Rattle.law_levels.specs.Scans.{IsScan}

-- no error of the rules of trees stands at an object exactly where the pages seen of it are those of a tree
abbrev pub SoundIsTree : Type 0
SoundIsTree = (object root : ℕ) (seen : List Page) → AreWellFormed seen
    → HasNoTreeErrors (known_of object root seen) object ↔ ((tree : Tree) × IsTreeOf root seen tree)

-- and those of one tree at most
abbrev pub OneTree : Type 0
OneTree = (root : ℕ) (seen : List Page) (tree other : Tree) → IsTreeOf root seen tree → IsTreeOf root seen other → tree ≡ other

-- the rows of a tree, leaf after leaf, rise by their keys
abbrev pub RowsRise : Type 0
RowsRise = (root : ℕ) (tree : Tree) → IsTree root tree → Rises 0 None (keys_of (rows_of tree.leaves))

-- a scan meets just the leaves of a tree, from left to right
abbrev pub ScanIsLeaves : Type 0
ScanIsLeaves = (root : ℕ) (seen : List Page) (tree : Tree) (pages : List Page) → IsTreeOf root seen tree
    → IsScan seen root pages ↔ (pages ≡ map Page.LeafPage tree.leaves)
