-- Where the rows of each page of a tree have room there, so have those of the tree after an insert or a delete.
use Rattle.std.specs.Prelude.{◌≡◌, ℕ, Bool, true, List, [], ◌∷◌, take, drop, Some, None}
use Rattle.spec_levels.specs.Levels.{Payload, Row, Node, Index, Tree}
use Rattle.spec_ways.specs.Rows.{with_row, without, with_first_key}
use Rattle.spec_ways.specs.Insert.{Cut, Cuts, inserted}
use Rattle.spec_ways.specs.Delete.{deleted}

-- which rows have room on a page
abbrev pub Room : Type 0 → Type 1
Room V = List (Row V) → Type 0

-- those that a test passes
abbrev pub Passes : {V : Type 0} → (List (Row V) → Bool) → Room V
Passes test rows = test rows ≡ true

abbrev pub HaveRoom : {V : Type 0} → Room V → List (Node V) → Type 0
HaveRoom room [] = Unit {0}
HaveRoom room (node ∷ nodes) = room node.rows × HaveRoom room nodes

abbrev pub LevelsHaveRoom : Room ℕ → List (List Index) → Type 0
LevelsHaveRoom room [] = Unit {0}
LevelsHaveRoom room (nodes ∷ more) = HaveRoom room nodes × LevelsHaveRoom room more

abbrev pub TreeHasRoom : Room Payload → Room ℕ → Tree → Type 0
TreeHasRoom leaf index tree = LevelsHaveRoom index tree.above × HaveRoom leaf tree.leaves

-- where rows have room on a page, and this one is put among them, they are cut so that each part has room
pub record CutsToRoom {V : Type 0} (room : Room V) (cut : Cut V) (row : Row V) : Type 0 where
  pub whole : (rows : List (Row V)) → room rows → cut (with_row row rows) ≡ None → room (with_row row rows)
  pub left : (rows : List (Row V)) (kept : ℕ) → room rows → cut (with_row row rows) ≡ Some kept → room (take kept (with_row row rows))
  pub right : (rows : List (Row V)) (kept : ℕ) → room rows → cut (with_row row rows) ≡ Some kept → room (drop kept (with_row row rows))

-- for an insert two rows of an index page must have room, as a raised root has them
abbrev pub InsertHasRoom : Type 0
InsertHasRoom = (leaf : List (Row Payload) → Bool) (index : List (Row ℕ) → Bool) (cuts : Cuts) (fresh : List ℕ) (root : ℕ) (row : Row Payload) (tree : Tree)
    → CutsToRoom (Passes leaf) cuts.leaf row → ((separator : Row ℕ) → CutsToRoom (Passes index) cuts.index separator) → ((first second : Row ℕ) → Passes index (first ∷ second ∷ []))
    → TreeHasRoom (Passes leaf) (Passes index) tree → TreeHasRoom (Passes leaf) (Passes index) (inserted cuts fresh root row tree)

-- for a delete, rows that have room must have it when one goes, and an index page's when its first row has another key;
-- and a leaf without rows must have room
abbrev pub DeleteHasRoom : Type 0
DeleteHasRoom = (leaf : List (Row Payload) → Bool) (index : List (Row ℕ) → Bool) (root key : ℕ) (tree : Tree)
    → ((gone : ℕ) (rows : List (Row Payload)) → Passes leaf rows → Passes leaf (without gone rows))
    → ((gone : ℕ) (rows : List (Row ℕ)) → Passes index rows → Passes index (without gone rows))
    → ((first : ℕ) (rows : List (Row ℕ)) → Passes index rows → Passes index (with_first_key first rows)) → Passes leaf []
    → TreeHasRoom (Passes leaf) (Passes index) tree → TreeHasRoom (Passes leaf) (Passes index) (deleted root key tree)
