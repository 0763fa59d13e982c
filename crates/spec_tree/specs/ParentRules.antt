-- The rules between a page and its parents, each at the page k.
use Rattle.std.specs.Prelude.{◌≡◌, ◌≢◌, ℕ, ◌+◌, ◌<◌, ◌≤◌, List, length, Some}
use Rattle.spec_check.specs.declared.report.CheckError.{CheckError}
use Rattle.spec_tree.specs.declared.known.PageHead.{PageHead}
use Rattle.spec_tree.specs.declared.known.IndexRow.{IndexRow}
use Rattle.spec_tree.specs.declared.known.RowPlace.{RowPlace}
use Rattle.spec_tree.specs.Known.{Known, IsTable, IsPage, IsRow, IsUnseenOf}
use Rattle.spec_tree.specs.Parents.{ArePlaces, with_catalog, first_page, High, Before}

-- an error of page p of object o
abbrev pub tree_error : ℕ → ℕ → ℕ → ℕ → ℕ → ℕ → CheckError
tree_error n o p other slot value = record { number = n; object = o; page = p; other = other; slot = slot; value = value }

-- an error of page k, of a kind, that index row c shows
abbrev pub row_error : ℕ → IndexRow → ℕ → ℕ → CheckError
row_error n c k value = tree_error n c.object.0 k c.parent.0 c.slot value

-- index row c of a clustered table names page k, which is seen as s
pub record IsParentOf (K : Known) (c : IndexRow) (k : ℕ) (s : PageHead) : Type 0 where
  pub root : ℕ
  pub table : IsTable K c.object.0 root
  pub row : IsRow K c.object.0 k c
  pub page : IsPage K c.object.0 k s

-- page k is the root of clustered table o, and is seen as s
pub record IsRootOf (K : Known) (o k : ℕ) (s : PageHead) : Type 0 where
  pub table : IsTable K o k
  pub page : IsPage K o k s

-- 8928: a root isn't seen
pub record IsRootUnseen (K : Known) (k : ℕ) (x : CheckError) : Type 0 where
  pub object : ℕ
  pub table : IsTable K object k
  pub unseen : IsUnseenOf K object k
  pub is : x ≡ tree_error 8928 object k 0 0 1

-- 8937: a page has two parents or more
pub record HasTwoParents (K : Known) (k : ℕ) (x : CheckError) : Type 0 where
  pub object : ℕ
  pub root : ℕ
  pub head : PageHead
  pub places : List RowPlace
  pub table : IsTable K object root
  pub page : IsPage K object k head
  pub are : ArePlaces K object k places
  pub two : 2 ≤ length (with_catalog root k places)
  pub is : x ≡ tree_error 8937 object k (first_page (with_catalog root k places)) 0 (length (with_catalog root k places))

-- 8931: the level of a page isn't that of its parent less 1
pub record HasWrongLevel (K : Known) (k : ℕ) (x : CheckError) : Type 0 where
  pub row : IndexRow
  pub head : PageHead
  pub parent : IsParentOf K row k head
  pub differs : head.level + 1 ≢ row.level
  pub is : x ≡ row_error 8931 row k head.level

-- the first key of a page, where its parent says low: a leaf's may be above, an index page's is the same
pub data IsFirstKeyWrong (head : PageHead) (low first : ℕ) : Type 0 where
  OfLeaf : head.level ≡ 0 → head.first ≡ Some first → first < low → IsFirstKeyWrong head low first
  OfIndex : 0 < head.level → head.first ≡ Some first → first ≢ low → IsFirstKeyWrong head low first

-- 8933: the first key of a page isn't as its parent says; the catalog says 0
pub data HasWrongFirstKey (K : Known) (k : ℕ) (x : CheckError) : Type 0 where
  ByRow : (c : IndexRow) (s : PageHead) (first : ℕ) → IsParentOf K c k s → IsFirstKeyWrong s c.key first
      → x ≡ row_error 8933 c k first → HasWrongFirstKey K k x
  ByCatalog : (o : ℕ) (s : PageHead) (first : ℕ) → IsRootOf K o k s → IsFirstKeyWrong s 0 first
      → x ≡ tree_error 8933 o k 0 0 first → HasWrongFirstKey K k x

-- 8934: the last key of a page isn't below High
pub record HasHighKey (K : Known) (k : ℕ) (x : CheckError) : Type 0 where
  pub row : IndexRow
  pub head : PageHead
  pub last : ℕ
  pub high : ℕ
  pub parent : IsParentOf K row k head
  pub key : head.last ≡ Some last
  pub limit : High K row high
  pub above : high ≤ last
  pub is : x ≡ row_error 8934 row k last

-- 8935: the page that a page names as prev isn't Before; for the catalog that is 0
pub data HasWrongPrev (K : Known) (k : ℕ) (x : CheckError) : Type 0 where
  ByRow : (c : IndexRow) (s : PageHead) (before : ℕ) → IsParentOf K c k s → Before K c before → s.prev.0 ≢ before
      → x ≡ row_error 8935 c k s.prev.0 → HasWrongPrev K k x
  ByCatalog : (o : ℕ) (s : PageHead) → IsRootOf K o k s → s.prev.0 ≢ 0
      → x ≡ tree_error 8935 o k 0 0 s.prev.0 → HasWrongPrev K k x
