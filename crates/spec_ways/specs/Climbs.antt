-- What becomes of the pages of a way where a row is put into its leaf, told by these pages alone.
use Rattle.std.specs.Prelude.{◌≡◌, ℕ, List, [], ◌∷◌, ◌++◌, take, drop, Option, Some, None}
use Rattle.spec_levels.specs.Levels.{Payload, Row, Node, Index, Leaf}
use Rattle.spec_ways.specs.Rows.{with_row, lowest_key}
use Rattle.spec_ways.specs.Ways.{Way, with_behind}
use Rattle.spec_ways.specs.Insert.{Cut, Cuts, first_fresh, left_over}

-- a page stays, has these rows, or has the first of these and gives the others to a new page right of it
pub data Step (V : Type 0) : Type 0 where
  Stays : Step V
  Grows : List (Row V) → Step V
  Splits : List (Row V) → ℕ → List (Row V) → Step V

abbrev pub step_of : {V : Type 0} → Option ℕ → ℕ → List (Row V) → Step V
step_of None right rows = Grows rows
step_of (Some kept) right rows = Splits (take kept rows) right (drop kept rows)

-- the row for the level above
abbrev pub separator_of : {V : Type 0} → Step V → Option (Row ℕ)
separator_of Stays = None
separator_of (Grows rows) = None
separator_of (Splits rows right more) = Some (record { key = lowest_key more; value = right })

-- the steps of a way's pages, the highest first, the separator of the first, and the new pages that no split took
pub record Climb : Type 0 where
  pub above : List (Step ℕ)
  pub leaf : Step Payload
  pub separator : Option (Row ℕ)
  pub fresh : List ℕ

-- the separator of the pages below goes right behind the row towards the key
abbrev pub climb_through : Cut ℕ → ℕ → Index → Climb → Option (Row ℕ) → Climb
climb_through cut key node below None = record { above = Stays ∷ below.above; leaf = below.leaf; separator = None; fresh = below.fresh }
climb_through cut key node below (Some separator) =
    let rows = with_behind key separator node.rows in
    let step = step_of (cut rows) (first_fresh below.fresh) rows in
    record { above = step ∷ below.above; leaf = below.leaf; separator = separator_of step; fresh = left_over (separator_of step) below.fresh }

-- from the leaf upwards
abbrev pub climb : Cuts → List ℕ → Row Payload → List Index → Leaf → Climb
climb cuts fresh row [] leaf =
    let rows = with_row row leaf.rows in
    let step = step_of (cuts.leaf rows) (first_fresh fresh) rows in
    record { above = []; leaf = step; separator = separator_of step; fresh = left_over (separator_of step) fresh }
climb cuts fresh row (node ∷ above) leaf = let below = climb cuts fresh row above leaf in climb_through cuts.index row.key node below below.separator

abbrev pub climb_of : Cuts → List ℕ → Row Payload → Way → Climb
climb_of cuts fresh row way = climb cuts fresh row way.above way.leaf

-- the new page of a split
abbrev pub new_page : {V : Type 0} → Step V → List ℕ
new_page Stays = []
new_page (Grows rows) = []
new_page (Splits rows right more) = right ∷ []

-- from the leaf upwards
abbrev pub new_pages : List (Step ℕ) → Step Payload → List ℕ
new_pages [] leaf = new_page leaf
new_pages (step ∷ steps) leaf = new_pages steps leaf ++ new_page step

-- a root that is split has two: that of its split, and one more
abbrev pub second_page : Option (Row ℕ) → List ℕ → List ℕ
second_page None fresh = []
second_page (Some separator) fresh = first_fresh fresh ∷ []

-- the new pages that a climb takes
abbrev pub taken_pages : Climb → List ℕ
taken_pages climb = new_pages climb.above climb.leaf ++ second_page climb.separator climb.fresh

-- these nodes, the first with this page as prev
abbrev pub with_first_prev : {V : Type 0} → ℕ → List (Node V) → List (Node V)
with_first_prev prev [] = []
with_first_prev prev (node ∷ nodes) = record { page = node.page; prev = prev; next = node.next; rows = node.rows } ∷ nodes

-- the page after its step, with the new page behind it
abbrev pub after_step : {V : Type 0} → Step V → Node V → List (Node V)
after_step Stays node = node ∷ []
after_step (Grows rows) node = record { page = node.page; prev = node.prev; next = node.next; rows = rows } ∷ []
after_step (Splits rows right more) node =
    record { page = node.page; prev = node.prev; next = right; rows = rows } ∷ record { page = right; prev = node.page; next = node.next; rows = more } ∷ []

-- the nodes behind them: the page's old next has the new page as prev
abbrev pub behind_step : {V : Type 0} → Step V → List (Node V) → List (Node V)
behind_step Stays nodes = nodes
behind_step (Grows rows) nodes = nodes
behind_step (Splits rows right more) nodes = with_first_prev right nodes

-- a level in which this page makes the step, and nothing else changes
pub record IsStepped {V : Type 0} (node : Node V) (step : Step V) (before now : List (Node V)) : Type 0 where
  pub left : List (Node V)
  pub right : List (Node V)
  pub was : before ≡ left ++ node ∷ right
  pub is : now ≡ left ++ (after_step step node ++ behind_step step right)

-- one page of each level
abbrev pub AreStepped : List Index → List (Step ℕ) → List (List Index) → List (List Index) → Type 0
AreStepped [] [] [] [] = Unit {0}
AreStepped (node ∷ way) (step ∷ steps) (before ∷ more) (now ∷ rest) = IsStepped node step before now × AreStepped way steps more rest
AreStepped way steps more rest = ⊥
