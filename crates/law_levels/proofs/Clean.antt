-- The rules of trees about the pages seen of one clustered table, where none of their errors stands.
use Rattle.std.proofs.Common.{◌≡◌, ◌≢◌, ◌⊎◌, ℕ, ◌+◌, ◌<◌, ◌≤◌, Some, None, List, length, Contains}
use Rattle.spec_levels.specs.Levels.{Row, Index, first_key}
use Rattle.spec_levels.specs.Pages.{Page, page_of, prev_of, next_of, level_of, keys_on}
use Rattle.law_levels.specs.Known.{Parent, last_value, last_in, first_in}

-- High and Before of the row that stands on the node between front and back
pub data High (seen : List Page) (node : Index) (back : List (Row ℕ)) (w : ℕ) : Type 0 where
  Within : first_key back ≡ Some w → High seen node back w
  Beyond : (l : ℕ) (m : Index) → first_key back ≡ None → Contains seen (Page.IndexPage l m) → m.page ≡ node.next → first_key m.rows ≡ Some w
      → High seen node back w

pub data Before (seen : List Page) (node : Index) (front : List (Row ℕ)) (w : ℕ) : Type 0 where
  Within : 0 < length front → last_value front ≡ w → Before seen node front w
  Leftmost : length front ≡ 0 → node.prev ≡ 0 → w ≡ 0 → Before seen node front w
  Beyond : (l : ℕ) (m : Index) → length front ≡ 0 → node.prev ≢ 0 → Contains seen (Page.IndexPage l m) → m.page ≡ node.prev
      → last_value m.rows ≡ w → Before seen node front w

-- the first key of a leaf is from low on, that of an index page is low
abbrev pub FirstFits : ℕ → Page → Type 0
FirstFits low (Page.LeafPage n) = (key : ℕ) → first_in (keys_on (Page.LeafPage n)) ≡ Some key → low ≤ key
FirstFits low (Page.IndexPage l n) = first_key n.rows ≡ Some low

-- no error of a rule stands
pub record IsClean (root : ℕ) (seen : List Page) : Type 0 where
  -- 8928, 8935 and 8933 at the root
  pub root_seen : (p : Page) × Contains seen p × (page_of p ≡ root)
  pub root_prev : (p : Page) → Contains seen p → page_of p ≡ root → prev_of p ≡ 0
  pub root_first : (p : Page) → Contains seen p → page_of p ≡ root → FirstFits 0 p
  -- 8976, 8980, 8925; 8981, 8982
  pub child_seen : (k : ℕ) → Parent seen k → (p : Page) × Contains seen p × (page_of p ≡ k)
  pub next_seen : (p : Page) → Contains seen p → next_of p ≢ 0 → (q : Page) × Contains seen q × (page_of q ≡ next_of p)
  -- 8937
  pub one_parent : (k : ℕ) (a b : Parent seen k) → (a.node.page ≡ b.node.page) × (length a.front ≡ length b.front)
  pub root_free : Parent seen root → ⊥
  -- 8931, 8933, 8934, 8935
  pub level : (p : Page) → Contains seen p → (a : Parent seen (page_of p)) → level_of p + 1 ≡ a.level
  pub first : (p : Page) → Contains seen p → (a : Parent seen (page_of p)) → FirstFits a.row.key p
  pub high : (p : Page) → Contains seen p → (a : Parent seen (page_of p)) (key w : ℕ) → last_in (keys_on p) ≡ Some key → High seen a.node a.back w → key < w
  pub prev : (p : Page) → Contains seen p → (a : Parent seen (page_of p)) (w : ℕ) → Before seen a.node a.front w → prev_of p ≡ w
  -- 8977, 8978, 8979
  pub parent : (p : Page) → Contains seen p → (page_of p ≡ root) ⊎ Parent seen (page_of p)
  pub linked : (p : Page) → Contains seen p → prev_of p ≢ 0 → (q : Page) × Contains seen q × (next_of q ≡ page_of p) × (page_of q ≡ prev_of p)
  -- 8936
  pub crossed : (p q : Page) → Contains seen p → Contains seen q → page_of q ≡ next_of p → prev_of q ≡ page_of p
