-- What is known of the pages of a clustered table, and that no error of the rules of trees stands at it.
use Rattle.std.proofs.Common.{◌≡◌, ◌≢◌, ◌⊎◌, ℕ, List, Contains}
use Rattle.spec_tree.specs.declared.known.PageHead.{PageHead}
use Rattle.spec_tree.specs.declared.known.Link.{Link}
use Rattle.spec_tree.specs.declared.known.IndexRow.{IndexRow}
use Rattle.spec_tree.specs.Known.{Known, IsTable, IsPage, IsUnseenOf, IsUnseen, IsSeenElsewhere}
use Rattle.spec_levels.specs.Pages.{Page, page_of}
use Rattle.law_levels.specs.Known.{Parent, head_on, link_on, parent_row}

-- of object o, a clustered table with this root, just these pages are known; no other object has one of them, and none has page 0;
-- and of each page it can be told whether another object has it
pub record IsKnownOf (K : Known) (o root : ℕ) (seen : List Page) : Type 0 where
  pub table : IsTable K o root
  pub one_table : (r : ℕ) → IsTable K o r → r ≡ root
  pub head : (p : Page) → Contains seen p → K.pages (head_on o p)
  pub is_head : (s : PageHead) → K.pages s → s.object.0 ≡ o → (p : Page) × Contains seen p × (s ≡ head_on o p)
  pub link : (p : Page) → Contains seen p → K.links (link_on o p)
  pub is_link : (l : Link) → K.links l → l.object.0 ≡ o → (p : Page) × Contains seen p × (l ≡ link_on o p)
  pub row : (k : ℕ) (a : Parent seen k) → K.rows (parent_row o seen k a)
  pub is_row : (c : IndexRow) → K.rows c → c.object.0 ≡ o → (a : Parent seen c.child.0) × (c ≡ parent_row o seen c.child.0 a)
  pub alone : (p : Page) → Contains seen p → (w : ℕ) (s : PageHead) → IsPage K w (page_of p) s → w ≡ o
  pub nonzero : IsUnseen K 0
  pub elsewhere : (k : ℕ) → ((w : ℕ) × IsSeenElsewhere K o k w) ⊎ ((w : ℕ) → w ≢ o → IsUnseenOf K w k)
