-- The parents of a page: the index rows that name it, and for a root the catalog.
use Rattle.std.specs.Prelude.{◌≡◌, ◌≢◌, ◌⊎◌, ℕ, ◌<◌, ◌==◌, List, [], ◌∷◌, Contains, Some, None, if◌then◌else◌}
use Rattle.std.specs.List.Sorted.{IsStrictlySortedBy}
use Rattle.std.specs.Ordering.{nat_cmp, on, then_cmp}
use Rattle.std.specs.declared.cmp.Ordering.{Ordering}
use Rattle.spec_tree.specs.declared.known.PageHead.{PageHead}
use Rattle.spec_tree.specs.declared.known.IndexRow.{IndexRow}
use Rattle.spec_tree.specs.declared.known.RowPlace.{RowPlace}
use Rattle.spec_tree.specs.Known.{Known, IsRow, HasNoRow, IsIndexPage}

-- places are ordered by page and slot
abbrev pub place_cmp : RowPlace → RowPlace → Ordering
place_cmp = then_cmp (on (λ x. x.page.0) nat_cmp) (on (λ x. x.slot) nat_cmp)

-- where an index row stands
abbrev pub place_of : IndexRow → RowPlace
place_of c = record { page = c.parent; slot = c.slot }

-- the places of the index rows of object o that name page p, in their order
pub record ArePlaces (K : Known) (o p : ℕ) (places : List RowPlace) : Type 0 where
  pub sorted : IsStrictlySortedBy place_cmp places
  pub sound : (q : RowPlace) → Contains places q → (c : IndexRow) × IsRow K o p c × (place_of c ≡ q)
  pub complete : (c : IndexRow) → IsRow K o p c → Contains places (place_of c)

-- the place of the catalog, which comes first
abbrev pub catalog_place : RowPlace
catalog_place = record { page = record { 0 = 0 }; slot = 0 }

-- the parents of page p in a tree with root r: for the root the catalog comes first
abbrev pub with_catalog : ℕ → ℕ → List RowPlace → List RowPlace
with_catalog r p places = if r == p then catalog_place ∷ places else places

-- the page of the first place
abbrev pub first_page : List RowPlace → ℕ
first_page [] = 0
first_page (x ∷ xs) = x.page.0

-- page p has no parent in a tree with root r
pub record HasNoParent (K : Known) (o r p : ℕ) : Type 0 where
  pub not_root : p ≢ r
  pub no_row : HasNoRow K o p

-- page p has a parent in a tree with root r
abbrev pub HasParent : Known → ℕ → ℕ → ℕ → Type 0
HasParent K o r p = (p ≡ r) ⊎ ((c : IndexRow) × IsRow K o p c)

-- High: the keys under index row c are below w. It is the next key of its page, or else the first key of the
-- index page that its page names as next
pub data High (K : Known) (c : IndexRow) (w : ℕ) : Type 0 where
  Within : c.next_key ≡ Some w → High K c w
  Beyond : (m : PageHead) → c.next_key ≡ None → IsIndexPage K c.object.0 c.parent_next.0 m → m.first ≡ Some w → High K c w

-- Before: the page before that of index row c is w. It is the page that the slot before names, or else the last
-- one that the index page before names; 0 where there is none
pub data Before (K : Known) (c : IndexRow) (w : ℕ) : Type 0 where
  Within : 0 < c.slot → c.before.0 ≡ w → Before K c w
  Leftmost : c.slot ≡ 0 → c.parent_prev.0 ≡ 0 → w ≡ 0 → Before K c w
  Beyond : (m : PageHead) → c.slot ≡ 0 → c.parent_prev.0 ≢ 0 → IsIndexPage K c.object.0 c.parent_prev.0 m
      → m.last_child.0 ≡ w → Before K c w
