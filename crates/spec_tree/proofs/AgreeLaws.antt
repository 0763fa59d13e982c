-- A rule at page k reads only what is known of page k and of index pages: where two agree on that, the same
-- errors stand at k.
use Rattle.std.specs.Prelude.{◌≡◌, ◌↔◌, ℕ, ◌<◌, List}
use Rattle.std.proofs.Common.{sym, subst, inl, inr, ⊎_elim}
use Rattle.spec_check.specs.declared.report.CheckError.{CheckError}
use Rattle.spec_tree.specs.declared.known.Root.{Root}
use Rattle.spec_tree.specs.declared.known.PageHead.{PageHead}
use Rattle.spec_tree.specs.declared.known.Link.{Link}
use Rattle.spec_tree.specs.declared.known.IndexRow.{IndexRow}
use Rattle.spec_tree.specs.declared.known.RowPlace.{RowPlace}
use Rattle.spec_tree.specs.Known.{Known, IsTable, IsPage, IsLink, IsRow, IsUnseenOf, IsUnseen, HasNoLink, HasNoRow, IsSeenElsewhere, IsIndexPage}
use Rattle.spec_tree.specs.Parents.{ArePlaces, HasNoParent, HasParent, High, Before}
use Rattle.spec_tree.specs.ParentRules.{IsParentOf, IsRootOf, HasWrongFirstKey, HasWrongPrev}
use Rattle.spec_tree.specs.NeighbourRules.{HasNoPrev, HasNoPlace, LeadsTo, NamesChild, IsChildNowhere}
use Rattle.spec_tree.specs.Trees.{StandsAt}

-- the same tables, the same of page k and of what leads to it, and the same index pages
pub record Agrees (K L : Known) (k : ℕ) : Type 0 where
  pub tables : (r : Root) → K.roots r ↔ L.roots r
  pub pages : (s : PageHead) → s.page.0 ≡ k → K.pages s ↔ L.pages s
  pub index : (s : PageHead) → 0 < s.level → K.pages s ↔ L.pages s
  pub links : (l : Link) → l.next.0 ≡ k → K.links l ↔ L.links l
  pub rows : (c : IndexRow) → c.child.0 ≡ k → K.rows c ↔ L.rows c

pub agrees_back : (K L : Known) (k : ℕ) → Agrees K L k → Agrees L K k
agrees_back K L k a = record {
  tables = λ r. ((a.tables r).1, (a.tables r).0);
  pages = λ s e. ((a.pages s e).1, (a.pages s e).0);
  index = λ s e. ((a.index s e).1, (a.index s e).0);
  links = λ l e. ((a.links l e).1, (a.links l e).0);
  rows = λ c e. ((a.rows c e).1, (a.rows c e).0);
}

table : (K L : Known) (k o r : ℕ) → Agrees K L k → IsTable K o r → IsTable L o r
table K L k o r a t = record { root = t.root; known = (a.tables t.root).0 t.known; object = t.object; page = t.page }

seen : (K L : Known) (k o : ℕ) (s : PageHead) → Agrees K L k → IsPage K o k s → IsPage L o k s
seen K L k o s a h = record { known = (a.pages s h.page).0 h.known; object = h.object; page = h.page }

link : (K L : Known) (k o : ℕ) (l : Link) → Agrees K L k → IsLink K o k l → IsLink L o k l
link K L k o l a h = record { known = (a.links l h.next).0 h.known; object = h.object; next = h.next }

row : (K L : Known) (k o : ℕ) (c : IndexRow) → Agrees K L k → IsRow K o k c → IsRow L o k c
row K L k o c a h = record { known = (a.rows c h.child).0 h.known; object = h.object; child = h.child }

index : (K L : Known) (k o p : ℕ) (m : PageHead) → Agrees K L k → IsIndexPage K o p m → IsIndexPage L o p m
index K L k o p m a h = record {
  page = record { known = (a.index m h.index).0 h.page.known; object = h.page.object; page = h.page.page };
  index = h.index;
}

unseen_of : (K L : Known) (k o : ℕ) → Agrees K L k → IsUnseenOf K o k → IsUnseenOf L o k
unseen_of K L k o a h = λ s p. h s (seen L K k o s (agrees_back K L k a) p)

unseen : (K L : Known) (k : ℕ) → Agrees K L k → IsUnseen K k → IsUnseen L k
unseen K L k a h = λ o. unseen_of K L k o a (h o)

no_link : (K L : Known) (k o : ℕ) → Agrees K L k → HasNoLink K o k → HasNoLink L o k
no_link K L k o a h = λ l p. h l (link L K k o l (agrees_back K L k a) p)

no_row : (K L : Known) (k o : ℕ) → Agrees K L k → HasNoRow K o k → HasNoRow L o k
no_row K L k o a h = λ c p. h c (row L K k o c (agrees_back K L k a) p)

elsewhere : (K L : Known) (k o w : ℕ) → Agrees K L k → IsSeenElsewhere K o k w → IsSeenElsewhere L o k w
elsewhere K L k o w a h = record {
  head = h.head;
  page = seen K L k w h.head a h.page;
  another = h.another;
  lowest = λ v s p. h.lowest v s (seen L K k v s (agrees_back K L k a) p);
}

places : (K L : Known) (k o : ℕ) (ps : List RowPlace) → Agrees K L k → ArePlaces K o k ps → ArePlaces L o k ps
places K L k o ps a h = record {
  sorted = h.sorted;
  sound = λ q i. let r = h.sound q i in (r.0, row K L k o r.0 a r.1, r.2);
  complete = λ c p. h.complete c (row L K k o c (agrees_back K L k a) p);
}

no_parent : (K L : Known) (k o r : ℕ) → Agrees K L k → HasNoParent K o r k → HasNoParent L o r k
no_parent K L k o r a h = record { not_root = h.not_root; no_row = no_row K L k o a h.no_row }

parent : (K L : Known) (k o r : ℕ) → Agrees K L k → HasParent K o r k → HasParent L o r k
parent K L k o r a h = ⊎_elim (λ e. inl e) (λ p. inr (p.0, row K L k o p.0 a p.1)) h

parent_of : (K L : Known) (k : ℕ) (c : IndexRow) (s : PageHead) → Agrees K L k → IsParentOf K c k s → IsParentOf L c k s
parent_of K L k c s a h = record {
  root = h.root;
  table = table K L k c.object.0 h.root a h.table;
  row = row K L k c.object.0 c a h.row;
  page = seen K L k c.object.0 s a h.page;
}

root_of : (K L : Known) (k o : ℕ) (s : PageHead) → Agrees K L k → IsRootOf K o k s → IsRootOf L o k s
root_of K L k o s a h = record { table = table K L k o k a h.table; page = seen K L k o s a h.page }

high : (K L : Known) (k : ℕ) (c : IndexRow) (w : ℕ) → Agrees K L k → High K c w → High L c w
high K L k c w a (High.Within e) = High.Within e
high K L k c w a (High.Beyond m e i f) = High.Beyond m e (index K L k c.object.0 c.parent_next.0 m a i) f

before : (K L : Known) (k : ℕ) (c : IndexRow) (w : ℕ) → Agrees K L k → Before K c w → Before L c w
before K L k c w a (Before.Within e f) = Before.Within e f
before K L k c w a (Before.Leftmost e f g) = Before.Leftmost e f g
before K L k c w a (Before.Beyond m e f i g) = Before.Beyond m e f (index K L k c.object.0 c.parent_prev.0 m a i) g

-- what lies before a page k is told by the links to it
no_prev : (K L : Known) (k : ℕ) (s : PageHead) → s.page.0 ≡ k → Agrees K L k → HasNoPrev K s → HasNoPrev L s
no_prev K L k s at a h = record {
  some = h.some;
  unlinked = λ l p. h.unlinked l (subst (λ n. IsLink K s.object.0 n l) (sym at)
      (link L K k s.object.0 l (agrees_back K L k a) (subst (λ n. IsLink L s.object.0 n l) at p)));
}

wrong_first : (K L : Known) (k : ℕ) (x : CheckError) → Agrees K L k → HasWrongFirstKey K k x → HasWrongFirstKey L k x
wrong_first K L k x a (HasWrongFirstKey.ByRow c s w p f e) = HasWrongFirstKey.ByRow c s w (parent_of K L k c s a p) f e
wrong_first K L k x a (HasWrongFirstKey.ByCatalog o s w p f e) = HasWrongFirstKey.ByCatalog o s w (root_of K L k o s a p) f e

wrong_prev : (K L : Known) (k : ℕ) (x : CheckError) → Agrees K L k → HasWrongPrev K k x → HasWrongPrev L k x
wrong_prev K L k x a (HasWrongPrev.ByRow c s w p b d e) = HasWrongPrev.ByRow c s w (parent_of K L k c s a p) (before K L k c w a b) d e
wrong_prev K L k x a (HasWrongPrev.ByCatalog o s p d e) = HasWrongPrev.ByCatalog o s (root_of K L k o s a p) d e

no_place : (K L : Known) (k : ℕ) (x : CheckError) → Agrees K L k → HasNoPlace K k x → HasNoPlace L k x
no_place K L k x a (HasNoPlace.NoParentNoPrev o r s t p n v e) =
    HasNoPlace.NoParentNoPrev o r s (table K L k o r a t) (seen K L k o s a p) (no_parent K L k o r a n) (no_prev K L k s p.page a v) e
no_place K L k x a (HasNoPlace.NoParent o r s t p n v e) =
    HasNoPlace.NoParent o r s (table K L k o r a t) (seen K L k o s a p) (no_parent K L k o r a n)
    (λ w. v (no_prev L K k s p.page (agrees_back K L k a) w)) e
no_place K L k x a (HasNoPlace.NoPrev o r s t p n v e) =
    HasNoPlace.NoPrev o r s (table K L k o r a t) (seen K L k o s a p) (parent K L k o r a n) (no_prev K L k s p.page a v) e

leads : (K L : Known) (k : ℕ) (l : Link) → Agrees K L k → LeadsTo K l k → LeadsTo L l k
leads K L k l a h = record { root = h.root; table = table K L k l.object.0 h.root a h.table; link = link K L k l.object.0 l a h.link }

names : (K L : Known) (k : ℕ) (c : IndexRow) → Agrees K L k → NamesChild K c k → NamesChild L c k
names K L k c a h = record { root = h.root; table = table K L k c.object.0 h.root a h.table; row = row K L k c.object.0 c a h.row }

nowhere : (K L : Known) (k : ℕ) (x : CheckError) → Agrees K L k → IsChildNowhere K k x → IsChildNowhere L k x
nowhere K L k x a (IsChildNowhere.Linked c l n u p e) =
    IsChildNowhere.Linked c l (names K L k c a n) (unseen K L k a u) (link K L k c.object.0 l a p) e
nowhere K L k x a (IsChildNowhere.Alone c n u p e) =
    IsChildNowhere.Alone c (names K L k c a n) (unseen K L k a u) (no_link K L k c.object.0 a p) e

pub stands_where : (K L : Known) (k : ℕ) (x : CheckError) → Agrees K L k → StandsAt K k x → StandsAt L k x
stands_where K L k x a (StandsAt.RootUnseen h) = StandsAt.RootUnseen (record {
  object = h.object;
  table = table K L k h.object k a h.table;
  unseen = unseen_of K L k h.object a h.unseen;
  is = h.is;
})
stands_where K L k x a (StandsAt.TwoParents h) = StandsAt.TwoParents (record {
  object = h.object;
  root = h.root;
  head = h.head;
  places = h.places;
  table = table K L k h.object h.root a h.table;
  page = seen K L k h.object h.head a h.page;
  are = places K L k h.object h.places a h.are;
  two = h.two;
  is = h.is;
})
stands_where K L k x a (StandsAt.WrongLevel h) = StandsAt.WrongLevel (record {
  row = h.row;
  head = h.head;
  parent = parent_of K L k h.row h.head a h.parent;
  differs = h.differs;
  is = h.is;
})
stands_where K L k x a (StandsAt.WrongFirstKey h) = StandsAt.WrongFirstKey (wrong_first K L k x a h)
stands_where K L k x a (StandsAt.HighKey h) = StandsAt.HighKey (record {
  row = h.row;
  head = h.head;
  last = h.last;
  high = h.high;
  parent = parent_of K L k h.row h.head a h.parent;
  key = h.key;
  limit = high K L k h.row h.high a h.limit;
  above = h.above;
  is = h.is;
})
stands_where K L k x a (StandsAt.WrongPrev h) = StandsAt.WrongPrev (wrong_prev K L k x a h)
stands_where K L k x a (StandsAt.NoPlace h) = StandsAt.NoPlace (no_place K L k x a h)
stands_where K L k x a (StandsAt.Crossed h) = StandsAt.Crossed (record {
  link = h.link;
  head = h.head;
  leads = leads K L k h.link a h.leads;
  page = seen K L k h.link.object.0 h.head a h.page;
  differs = h.differs;
  is = h.is;
})
stands_where K L k x a (StandsAt.NextElsewhere h) = StandsAt.NextElsewhere (record {
  link = h.link;
  owner = h.owner;
  leads = leads K L k h.link a h.leads;
  elsewhere = elsewhere K L k h.link.object.0 h.owner a h.elsewhere;
  is = h.is;
})
stands_where K L k x a (StandsAt.NextNowhere h) = StandsAt.NextNowhere (record {
  link = h.link;
  leads = leads K L k h.link a h.leads;
  some = h.some;
  unseen = unseen K L k a h.unseen;
  no_row = no_row K L k h.link.object.0 a h.no_row;
  is = h.is;
})
stands_where K L k x a (StandsAt.ChildElsewhere h) = StandsAt.ChildElsewhere (record {
  row = h.row;
  owner = h.owner;
  names = names K L k h.row a h.names;
  elsewhere = elsewhere K L k h.row.object.0 h.owner a h.elsewhere;
  is = h.is;
})
stands_where K L k x a (StandsAt.ChildNowhere h) = StandsAt.ChildNowhere (nowhere K L k x a h)
