-- The rules between a page, its neighbours and its place in the tree, each at the page k where they meet.
use Rattle.std.specs.Prelude.{◌≡◌, ◌≢◌, ℕ}
use Rattle.spec_check.specs.declared.report.CheckError.{CheckError}
use Rattle.spec_tree.specs.declared.known.PageHead.{PageHead}
use Rattle.spec_tree.specs.declared.known.Link.{Link}
use Rattle.spec_tree.specs.declared.known.IndexRow.{IndexRow}
use Rattle.spec_tree.specs.Known.{Known, IsTable, IsPage, IsLink, IsRow, IsUnseen, HasNoLink, HasNoRow, IsSeenElsewhere}
use Rattle.spec_tree.specs.Parents.{HasNoParent, HasParent}
use Rattle.spec_tree.specs.ParentRules.{tree_error, row_error}

-- the page that s names as prev isn't a page seen of its object that names s as next
pub record HasNoPrev (K : Known) (s : PageHead) : Type 0 where
  pub some : s.prev.0 ≢ 0
  pub unlinked : (l : Link) → IsLink K s.object.0 s.page.0 l → l.page.0 ≢ s.prev.0

-- 8979, 8977 and 8978: a page has no parent and no page before it; no parent; no page before it
pub data HasNoPlace (K : Known) (k : ℕ) (x : CheckError) : Type 0 where
  NoParentNoPrev : (o r : ℕ) (s : PageHead) → IsTable K o r → IsPage K o k s → HasNoParent K o r k → HasNoPrev K s
      → x ≡ tree_error 8979 o k s.prev.0 0 0 → HasNoPlace K k x
  NoParent : (o r : ℕ) (s : PageHead) → IsTable K o r → IsPage K o k s → HasNoParent K o r k → (HasNoPrev K s → ⊥)
      → x ≡ tree_error 8977 o k 0 0 0 → HasNoPlace K k x
  NoPrev : (o r : ℕ) (s : PageHead) → IsTable K o r → IsPage K o k s → HasParent K o r k → HasNoPrev K s
      → x ≡ tree_error 8978 o k s.prev.0 0 0 → HasNoPlace K k x

-- link l of a clustered table leads to page k
pub record LeadsTo (K : Known) (l : Link) (k : ℕ) : Type 0 where
  pub root : ℕ
  pub table : IsTable K l.object.0 root
  pub link : IsLink K l.object.0 k l

-- 8936: page k, the next of a page, names another one as prev
pub record IsCrossed (K : Known) (k : ℕ) (x : CheckError) : Type 0 where
  pub link : Link
  pub head : PageHead
  pub leads : LeadsTo K link k
  pub page : IsPage K link.object.0 k head
  pub differs : head.prev.0 ≢ link.page.0
  pub is : x ≡ tree_error 8936 link.object.0 link.page.0 k 0 head.prev.0

-- 8982: page k, the next of a page, is seen of another object
pub record IsNextElsewhere (K : Known) (k : ℕ) (x : CheckError) : Type 0 where
  pub link : Link
  pub owner : ℕ
  pub leads : LeadsTo K link k
  pub elsewhere : IsSeenElsewhere K link.object.0 k owner
  pub is : x ≡ tree_error 8982 link.object.0 link.page.0 k 0 owner

-- 8981: page k, the next of a page, isn't seen of any object, and no index row names it
pub record IsNextNowhere (K : Known) (k : ℕ) (x : CheckError) : Type 0 where
  pub link : Link
  pub leads : LeadsTo K link k
  pub some : k ≢ 0
  pub unseen : IsUnseen K k
  pub no_row : HasNoRow K link.object.0 k
  pub is : x ≡ tree_error 8981 link.object.0 link.page.0 k 0 0

-- index row c of a clustered table names page k
pub record NamesChild (K : Known) (c : IndexRow) (k : ℕ) : Type 0 where
  pub root : ℕ
  pub table : IsTable K c.object.0 root
  pub row : IsRow K c.object.0 k c

-- 8925: page k, which an index row names, is seen of another object
pub record IsChildElsewhere (K : Known) (k : ℕ) (x : CheckError) : Type 0 where
  pub row : IndexRow
  pub owner : ℕ
  pub names : NamesChild K row k
  pub elsewhere : IsSeenElsewhere K row.object.0 k owner
  pub is : x ≡ row_error 8925 row k owner

-- 8976 and 8980: page k, which an index row names, isn't seen of any object; a page seen of its object names
-- it as next, or none does
pub data IsChildNowhere (K : Known) (k : ℕ) (x : CheckError) : Type 0 where
  Linked : (c : IndexRow) (l : Link) → NamesChild K c k → IsUnseen K k → IsLink K c.object.0 k l
      → x ≡ row_error 8976 c k 0 → IsChildNowhere K k x
  Alone : (c : IndexRow) → NamesChild K c k → IsUnseen K k → HasNoLink K c.object.0 k
      → x ≡ row_error 8980 c k 0 → IsChildNowhere K k x
