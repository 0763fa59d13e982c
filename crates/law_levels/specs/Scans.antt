-- A scan of a clustered table: down to its leftmost leaf, and from there along the leaves.
use Rattle.std.specs.Prelude.{◌≡◌, ℕ, List, [], ◌∷◌, Contains}
use Rattle.spec_levels.specs.Levels.{Row, Index, Leaf}
use Rattle.spec_levels.specs.Pages.{Page, page_of, next_of}

-- from a page, the first row of each index page leads down to the leaf
pub data LeadsDown (seen : List Page) (leaf : Leaf) : ℕ → Type 0 where
  Stays : (page : ℕ) → Contains seen (Page.LeafPage leaf) → leaf.page ≡ page → LeadsDown seen leaf page
  Descends : (page level : ℕ) (node : Index) (row : Row ℕ) (rows : List (Row ℕ)) → Contains seen (Page.IndexPage level node) → node.page ≡ page
      → node.rows ≡ row ∷ rows → LeadsDown seen leaf row.value → LeadsDown seen leaf page

-- from this page, each page names the following one as next, and the last one names none
abbrev pub AreInTurn : List Page → ℕ → List Page → Type 0
AreInTurn seen page [] = page ≡ 0
AreInTurn seen page (here ∷ pages) = Contains seen here × (page_of here ≡ page) × AreInTurn seen (next_of here) pages

-- the pages of a scan that begins at the root
pub record IsScan (seen : List Page) (root : ℕ) (pages : List Page) : Type 0 where
  pub leftmost : Leaf
  pub down : LeadsDown seen leftmost root
  pub along : AreInTurn seen leftmost.page pages
