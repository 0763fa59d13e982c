-- What is known of the pages of all objects. The rules are stated over this alone, so that the same rules
-- speak of the pages of an image, of a list of facts, and of a part of them.
use Rattle.std.specs.Prelude.{◌≡◌, ◌≢◌, ℕ, ◌<◌}
use Rattle.spec_tree.specs.declared.known.Root.{Root}
use Rattle.spec_tree.specs.declared.known.PageHead.{PageHead}
use Rattle.spec_tree.specs.declared.known.Link.{Link}
use Rattle.spec_tree.specs.declared.known.IndexRow.{IndexRow}

-- the clustered tables of the catalog; the pages seen of all objects; the links from a page that is seen to
-- the one that it names as next; and the rows of index pages that are seen
pub record Known : Type 1 where
  pub roots : Root → Type 0
  pub pages : PageHead → Type 0
  pub links : Link → Type 0
  pub rows : IndexRow → Type 0

-- o is a clustered table with root r
pub record IsTable (K : Known) (o r : ℕ) : Type 0 where
  pub root : Root
  pub known : K.roots root
  pub object : root.object.0 ≡ o
  pub page : root.page.0 ≡ r

-- s is page p, seen of object o
pub record IsPage (K : Known) (o p : ℕ) (s : PageHead) : Type 0 where
  pub known : K.pages s
  pub object : s.object.0 ≡ o
  pub page : s.page.0 ≡ p

-- l leads to page p from a page seen of object o
pub record IsLink (K : Known) (o p : ℕ) (l : Link) : Type 0 where
  pub known : K.links l
  pub object : l.object.0 ≡ o
  pub next : l.next.0 ≡ p

-- c is an index row of object o that names page p
pub record IsRow (K : Known) (o p : ℕ) (c : IndexRow) : Type 0 where
  pub known : K.rows c
  pub object : c.object.0 ≡ o
  pub child : c.child.0 ≡ p

-- p isn't seen of object o
abbrev pub IsUnseenOf : Known → ℕ → ℕ → Type 0
IsUnseenOf K o p = (s : PageHead) → IsPage K o p s → ⊥

-- p isn't seen of any object
abbrev pub IsUnseen : Known → ℕ → Type 0
IsUnseen K p = (o : ℕ) → IsUnseenOf K o p

-- no page seen of object o names p as next
abbrev pub HasNoLink : Known → ℕ → ℕ → Type 0
HasNoLink K o p = (l : Link) → IsLink K o p l → ⊥

-- no index row of object o names p
abbrev pub HasNoRow : Known → ℕ → ℕ → Type 0
HasNoRow K o p = (c : IndexRow) → IsRow K o p c → ⊥

-- p is seen of another object than o; the lowest is w
pub record IsSeenElsewhere (K : Known) (o p w : ℕ) : Type 0 where
  pub head : PageHead
  pub page : IsPage K w p head
  pub another : w ≢ o
  pub lowest : (v : ℕ) (s : PageHead) → IsPage K v p s → v ≢ o → v < w → ⊥

-- m is page p, an index page seen of object o
pub record IsIndexPage (K : Known) (o p : ℕ) (m : PageHead) : Type 0 where
  pub page : IsPage K o p m
  pub index : 0 < m.level
