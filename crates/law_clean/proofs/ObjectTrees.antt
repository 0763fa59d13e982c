-- The rules of trees speak of one object each. Where two agree on what is known of an object, the same rules stand
-- for it, but for those that ask of whom else a page is seen.
use Rattle.std.proofs.Common.{◌≡◌, ◌≢◌, ◌↔◌, ℕ, zero, suc, ◌<◌, List, refl, sym, ap, subst, ◌∙◌, inl, inr, ⊎_elim, arith}
use Rattle.std.proofs.lemmas.Bool.{cases_eq}
use Rattle.spec_check.specs.declared.report.CheckError.{CheckError}
use Rattle.spec_tree.specs.declared.known.Root.{Root}
use Rattle.spec_tree.specs.declared.known.PageHead.{PageHead}
use Rattle.spec_tree.specs.declared.known.Link.{Link}
use Rattle.spec_tree.specs.declared.known.IndexRow.{IndexRow}
use Rattle.spec_tree.specs.declared.known.RowPlace.{RowPlace}
use Rattle.spec_tree.specs.Known.{Known, IsTable, IsPage, IsLink, IsRow, IsUnseenOf, IsUnseen, HasNoLink, HasNoRow, IsSeenElsewhere, IsIndexPage}
use Rattle.spec_tree.specs.Parents.{ArePlaces, HasNoParent, HasParent, High, Before}
use Rattle.spec_tree.specs.ParentRules.{IsParentOf, IsRootOf, HasWrongFirstKey, HasWrongPrev}
use Rattle.spec_tree.specs.NeighbourRules.{HasNoPrev, HasNoPlace, LeadsTo, NamesChild, IsChildNowhere}
use Rattle.spec_tree.specs.Trees.{StandsAt}

-- the same is known of object o
pub record AgreesOf (K L : Known) (o : ℕ) : Type 0 where
  pub tables : (r : Root) → r.object.0 ≡ o → K.roots r ↔ L.roots r
  pub pages : (s : PageHead) → s.object.0 ≡ o → K.pages s ↔ L.pages s
  pub links : (l : Link) → l.object.0 ≡ o → K.links l ↔ L.links l
  pub rows : (c : IndexRow) → c.object.0 ≡ o → K.rows c ↔ L.rows c

pub agrees_back : (K L : Known) (o : ℕ) → AgreesOf K L o → AgreesOf L K o
agrees_back K L o a = record {
  tables = λ r at. ((a.tables r at).1, (a.tables r at).0);
  pages = λ s at. ((a.pages s at).1, (a.pages s at).0);
  links = λ l at. ((a.links l at).1, (a.links l at).0);
  rows = λ c at. ((a.rows c at).1, (a.rows c at).0);
}

table : (K L : Known) (o w r : ℕ) → AgreesOf K L o → w ≡ o → IsTable K w r → IsTable L w r
table K L o w r a at t = record { root = t.root; known = (a.tables t.root (t.object ∙ at)).0 t.known; object = t.object; page = t.page }

seen : (K L : Known) (o w p : ℕ) (s : PageHead) → AgreesOf K L o → w ≡ o → IsPage K w p s → IsPage L w p s
seen K L o w p s a at h = record { known = (a.pages s (h.object ∙ at)).0 h.known; object = h.object; page = h.page }

link : (K L : Known) (o w p : ℕ) (l : Link) → AgreesOf K L o → w ≡ o → IsLink K w p l → IsLink L w p l
link K L o w p l a at h = record { known = (a.links l (h.object ∙ at)).0 h.known; object = h.object; next = h.next }

row : (K L : Known) (o w p : ℕ) (c : IndexRow) → AgreesOf K L o → w ≡ o → IsRow K w p c → IsRow L w p c
row K L o w p c a at h = record { known = (a.rows c (h.object ∙ at)).0 h.known; object = h.object; child = h.child }

index : (K L : Known) (o w p : ℕ) (m : PageHead) → AgreesOf K L o → w ≡ o → IsIndexPage K w p m → IsIndexPage L w p m
index K L o w p m a at h = record { page = seen K L o w p m a at h.page; index = h.index }

unseen_of : (K L : Known) (o w p : ℕ) → AgreesOf K L o → w ≡ o → IsUnseenOf K w p → IsUnseenOf L w p
unseen_of K L o w p a at h = λ s is. h s (seen L K o w p s (agrees_back K L o a) at is)

no_link : (K L : Known) (o w p : ℕ) → AgreesOf K L o → w ≡ o → HasNoLink K w p → HasNoLink L w p
no_link K L o w p a at h = λ l is. h l (link L K o w p l (agrees_back K L o a) at is)

no_row : (K L : Known) (o w p : ℕ) → AgreesOf K L o → w ≡ o → HasNoRow K w p → HasNoRow L w p
no_row K L o w p a at h = λ c is. h c (row L K o w p c (agrees_back K L o a) at is)

places : (K L : Known) (o w p : ℕ) (ps : List RowPlace) → AgreesOf K L o → w ≡ o → ArePlaces K w p ps → ArePlaces L w p ps
places K L o w p ps a at h = record {
  sorted = h.sorted;
  sound = λ q i. let r = h.sound q i in (r.0, row K L o w p r.0 a at r.1, r.2);
  complete = λ c is. h.complete c (row L K o w p c (agrees_back K L o a) at is);
}

no_parent : (K L : Known) (o w r p : ℕ) → AgreesOf K L o → w ≡ o → HasNoParent K w r p → HasNoParent L w r p
no_parent K L o w r p a at h = record { not_root = h.not_root; no_row = no_row K L o w p a at h.no_row }

parent : (K L : Known) (o w r p : ℕ) → AgreesOf K L o → w ≡ o → HasParent K w r p → HasParent L w r p
parent K L o w r p a at h = ⊎_elim (λ e. inl e) (λ c. inr (c.0, row K L o w p c.0 a at c.1)) h

parent_of : (K L : Known) (o k : ℕ) (c : IndexRow) (s : PageHead) → AgreesOf K L o → c.object.0 ≡ o → IsParentOf K c k s → IsParentOf L c k s
parent_of K L o k c s a at h = record {
  root = h.root;
  table = table K L o c.object.0 h.root a at h.table;
  row = row K L o c.object.0 k c a at h.row;
  page = seen K L o c.object.0 k s a at h.page;
}

root_of : (K L : Known) (o w k : ℕ) (s : PageHead) → AgreesOf K L o → w ≡ o → IsRootOf K w k s → IsRootOf L w k s
root_of K L o w k s a at h = record { table = table K L o w k a at h.table; page = seen K L o w k s a at h.page }

high : (K L : Known) (o : ℕ) (c : IndexRow) (w : ℕ) → AgreesOf K L o → c.object.0 ≡ o → High K c w → High L c w
high K L o c w a at (High.Within e) = High.Within e
high K L o c w a at (High.Beyond m e i f) = High.Beyond m e (index K L o c.object.0 c.parent_next.0 m a at i) f

before : (K L : Known) (o : ℕ) (c : IndexRow) (w : ℕ) → AgreesOf K L o → c.object.0 ≡ o → Before K c w → Before L c w
before K L o c w a at (Before.Within e f) = Before.Within e f
before K L o c w a at (Before.Leftmost e f g) = Before.Leftmost e f g
before K L o c w a at (Before.Beyond m e f i g) = Before.Beyond m e f (index K L o c.object.0 c.parent_prev.0 m a at i) g

no_prev : (K L : Known) (o : ℕ) (s : PageHead) → AgreesOf K L o → s.object.0 ≡ o → HasNoPrev K s → HasNoPrev L s
no_prev K L o s a at h = record {
  some = h.some;
  unlinked = λ l is. h.unlinked l (link L K o s.object.0 s.page.0 l (agrees_back K L o a) at is);
}

leads : (K L : Known) (o k : ℕ) (l : Link) → AgreesOf K L o → l.object.0 ≡ o → LeadsTo K l k → LeadsTo L l k
leads K L o k l a at h = record { root = h.root; table = table K L o l.object.0 h.root a at h.table; link = link K L o l.object.0 k l a at h.link }

names : (K L : Known) (o k : ℕ) (c : IndexRow) → AgreesOf K L o → c.object.0 ≡ o → NamesChild K c k → NamesChild L c k
names K L o k c a at h = record { root = h.root; table = table K L o c.object.0 h.root a at h.table; row = row K L o c.object.0 k c a at h.row }

-- the rules for which it doesn't matter of whom else a page is seen
wrong_first : (K L : Known) (o k : ℕ) (x : CheckError) → AgreesOf K L o → x.object ≡ o → HasWrongFirstKey K k x → HasWrongFirstKey L k x
wrong_first K L o k x a at (HasWrongFirstKey.ByRow c s w p f e) =
    HasWrongFirstKey.ByRow c s w (parent_of K L o k c s a (sym (ap (λ (y : CheckError). y.object) e) ∙ at) p) f e
wrong_first K L o k x a at (HasWrongFirstKey.ByCatalog v s w p f e) =
    HasWrongFirstKey.ByCatalog v s w (root_of K L o v k s a (sym (ap (λ (y : CheckError). y.object) e) ∙ at) p) f e

wrong_prev : (K L : Known) (o k : ℕ) (x : CheckError) → AgreesOf K L o → x.object ≡ o → HasWrongPrev K k x → HasWrongPrev L k x
wrong_prev K L o k x a at (HasWrongPrev.ByRow c s w p b d e) =
    let own = sym (ap (λ (y : CheckError). y.object) e) ∙ at in
    HasWrongPrev.ByRow c s w (parent_of K L o k c s a own p) (before K L o c w a own b) d e
wrong_prev K L o k x a at (HasWrongPrev.ByCatalog v s p d e) =
    HasWrongPrev.ByCatalog v s (root_of K L o v k s a (sym (ap (λ (y : CheckError). y.object) e) ∙ at) p) d e

no_place : (K L : Known) (o k : ℕ) (x : CheckError) → AgreesOf K L o → x.object ≡ o → HasNoPlace K k x → HasNoPlace L k x
no_place K L o k x a at (HasNoPlace.NoParentNoPrev w r s t p n v e) =
    let own = sym (ap (λ (y : CheckError). y.object) e) ∙ at in
    HasNoPlace.NoParentNoPrev w r s (table K L o w r a own t) (seen K L o w k s a own p) (no_parent K L o w r k a own n) (no_prev K L o s a (p.object ∙ own) v) e
no_place K L o k x a at (HasNoPlace.NoParent w r s t p n v e) =
    let own = sym (ap (λ (y : CheckError). y.object) e) ∙ at in
    HasNoPlace.NoParent w r s (table K L o w r a own t) (seen K L o w k s a own p) (no_parent K L o w r k a own n)
    (λ h. v (no_prev L K o s (agrees_back K L o a) (p.object ∙ own) h)) e
no_place K L o k x a at (HasNoPlace.NoPrev w r s t p n v e) =
    let own = sym (ap (λ (y : CheckError). y.object) e) ∙ at in
    HasNoPlace.NoPrev w r s (table K L o w r a own t) (seen K L o w k s a own p) (parent K L o w r k a own n) (no_prev K L o s a (p.object ∙ own) v) e

-- what a rule of the five others finds wrong in the one shows something wrong in the other too
pub record ShowsOthers (K L : Known) (o k : ℕ) : Type 0 where
  pub next_elsewhere : (l : Link) (w : ℕ) → LeadsTo K l k → l.object.0 ≡ o → IsSeenElsewhere K l.object.0 k w → ((x : CheckError) → StandsAt L k x → ⊥) → ⊥
  pub next_nowhere : (l : Link) → LeadsTo K l k → l.object.0 ≡ o → k ≢ 0 → IsUnseen K k → ((x : CheckError) → StandsAt L k x → ⊥) → ⊥
  pub child_elsewhere : (c : IndexRow) (w : ℕ) → NamesChild K c k → c.object.0 ≡ o → IsSeenElsewhere K c.object.0 k w → ((x : CheckError) → StandsAt L k x → ⊥) → ⊥
  pub child_nowhere : (c : IndexRow) → NamesChild K c k → c.object.0 ≡ o → IsUnseen K k → ((x : CheckError) → StandsAt L k x → ⊥) → ⊥

pub shows : (K L : Known) (o k : ℕ) (x : CheckError) → AgreesOf K L o → ShowsOthers K L o k → x.object ≡ o → StandsAt K k x → ((y : CheckError) → StandsAt L k y → ⊥) → ⊥
shows K L o k x a others at (StandsAt.RootUnseen h) none =
    let own = sym (ap (λ (y : CheckError). y.object) h.is) ∙ at in
    none x (StandsAt.RootUnseen (record { object = h.object; table = table K L o h.object k a own h.table; unseen = unseen_of K L o h.object k a own h.unseen; is = h.is }))
shows K L o k x a others at (StandsAt.TwoParents h) none =
    let own = sym (ap (λ (y : CheckError). y.object) h.is) ∙ at in
    none x (StandsAt.TwoParents (record {
      object = h.object;
      root = h.root;
      head = h.head;
      places = h.places;
      table = table K L o h.object h.root a own h.table;
      page = seen K L o h.object k h.head a own h.page;
      are = places K L o h.object k h.places a own h.are;
      two = h.two;
      is = h.is;
    }))
shows K L o k x a others at (StandsAt.WrongLevel h) none =
    let own = sym (ap (λ (y : CheckError). y.object) h.is) ∙ at in
    none x (StandsAt.WrongLevel (record { row = h.row; head = h.head; parent = parent_of K L o k h.row h.head a own h.parent; differs = h.differs; is = h.is }))
shows K L o k x a others at (StandsAt.WrongFirstKey h) none = none x (StandsAt.WrongFirstKey (wrong_first K L o k x a at h))
shows K L o k x a others at (StandsAt.HighKey h) none =
    let own = sym (ap (λ (y : CheckError). y.object) h.is) ∙ at in
    none x (StandsAt.HighKey (record {
      row = h.row;
      head = h.head;
      last = h.last;
      high = h.high;
      parent = parent_of K L o k h.row h.head a own h.parent;
      key = h.key;
      limit = high K L o h.row h.high a own h.limit;
      above = h.above;
      is = h.is;
    }))
shows K L o k x a others at (StandsAt.WrongPrev h) none = none x (StandsAt.WrongPrev (wrong_prev K L o k x a at h))
shows K L o k x a others at (StandsAt.NoPlace h) none = none x (StandsAt.NoPlace (no_place K L o k x a at h))
shows K L o k x a others at (StandsAt.Crossed h) none =
    let own = sym (ap (λ (y : CheckError). y.object) h.is) ∙ at in
    none x (StandsAt.Crossed (record {
      link = h.link;
      head = h.head;
      leads = leads K L o k h.link a own h.leads;
      page = seen K L o h.link.object.0 k h.head a own h.page;
      differs = h.differs;
      is = h.is;
    }))
shows K L o k x a others at (StandsAt.NextElsewhere h) none =
    others.next_elsewhere h.link h.owner h.leads (sym (ap (λ (y : CheckError). y.object) h.is) ∙ at) h.elsewhere none
shows K L o k x a others at (StandsAt.NextNowhere h) none =
    others.next_nowhere h.link h.leads (sym (ap (λ (y : CheckError). y.object) h.is) ∙ at) h.some h.unseen none
shows K L o k x a others at (StandsAt.ChildElsewhere h) none =
    others.child_elsewhere h.row h.owner h.names (sym (ap (λ (y : CheckError). y.object) h.is) ∙ at) h.elsewhere none
shows K L o k x a others at (StandsAt.ChildNowhere (IsChildNowhere.Linked c l n u p e)) none =
    others.child_nowhere c n (sym (ap (λ (y : CheckError). y.object) e) ∙ at) u none
shows K L o k x a others at (StandsAt.ChildNowhere (IsChildNowhere.Alone c n u p e)) none =
    others.child_nowhere c n (sym (ap (λ (y : CheckError). y.object) e) ∙ at) u none

-- a page that isn't seen is named wrongly: by a link, and by an index row
pub wrong_child : (K : Known) (k : ℕ) (c : IndexRow) → NamesChild K c k → IsUnseen K k → ((x : CheckError) → StandsAt K k x → ⊥) → ⊥
wrong_child K k c n unseen none = none _ (StandsAt.ChildNowhere (IsChildNowhere.Alone c n unseen
    (λ l is. none _ (StandsAt.ChildNowhere (IsChildNowhere.Linked c l n unseen is refl))) refl))

pub wrong_next : (K : Known) (k : ℕ) (l : Link) → LeadsTo K l k → k ≢ 0 → IsUnseen K k → ((x : CheckError) → StandsAt K k x → ⊥) → ⊥
wrong_next K k l h some unseen none = none _ (StandsAt.NextNowhere (record {
  link = l;
  leads = h;
  some = some;
  unseen = unseen;
  no_row = λ c is. wrong_child K k c (record {
    root = h.root;
    table = subst (λ o. IsTable K o h.root)
        (sym is.object) h.table;
    row = record { known = is.known; object = refl; child = is.child };
  }) unseen none;
  is = refl;
}))

-- one that is seen of another object is so too: some object is the lowest of those
none_below : (P : ℕ → Type 0) → (((v : ℕ) × P v × ((u : ℕ) → P u → u < v → ⊥)) → ⊥) → (n u : ℕ) → u < n → P u → ⊥
none_below P h zero u less p = omega (arith, less)
none_below P h (suc n) u less p = ⊎_elim
    (λ here. h (u, p, λ v q low. none_below P h n v (omega (arith, low, here)) q))
    (λ other. none_below P h n u (omega (arith, less, other)) p) (cases_eq u n)

elsewhere : (K : Known) (o k w : ℕ) (s : PageHead) → IsPage K w k s → w ≢ o → (((v : ℕ) × IsSeenElsewhere K o k v) → ⊥) → ⊥
elsewhere K o k w s is differs h =
    none_below (λ v. (head : PageHead) × IsPage K v k head × (v ≢ o))
    (λ least. h (
      least.0,
      record {
        head = least.1.0;
        page = least.1.1;
        another = least.1.2;
        lowest = λ v t at other low. least.2 v (t, at, other) low;
      },
    )) (suc w) w (omega arith) (s, is, differs)

-- from what is known of all to what is known of o alone: no page is seen of two objects, and none is page 0
pub record IsPartOf (K L : Known) (o : ℕ) : Type 0 where
  pub agrees : AgreesOf K L o
  pub within : (s : PageHead) → L.pages s → K.pages s × (s.object.0 ≡ o)
  pub one : (p w : ℕ) (s t : PageHead) → IsPage K o p s → IsPage K w p t → w ≡ o
  pub nonzero : (p w : ℕ) (s : PageHead) → IsPage K w p s → p ≢ 0

module _ (K L : Known) (o k : ℕ) (part : IsPartOf K L o) where
  unseen_in : (w : ℕ) (s : PageHead) → IsPage K w k s → w ≢ o → IsUnseen L k
  unseen_in w s is differs v t at =
      let whole = part.within t at.known in
      differs (part.one k w t s (record { known = whole.0; object = whole.1; page = at.page }) is)

  unseen_too : IsUnseen K k → IsUnseen L k
  unseen_too unseen v t at = let whole = part.within t at.known in unseen o t (record { known = whole.0; object = whole.1; page = at.page })

  pub into_part : ShowsOthers K L o k
  into_part = record {
    next_elsewhere = λ l w h at other none. wrong_next L k l (leads K L o k l part.agrees at h) (part.nonzero k w other.head other.page)
        (unseen_in w other.head other.page (λ same. other.another (same ∙ sym at))) none;
    next_nowhere = λ l h at some unseen none. wrong_next L k l (leads K L o k l part.agrees at h) some (unseen_too unseen) none;
    child_elsewhere = λ c w h at other none. wrong_child L k c (names K L o k c part.agrees at h)
        (unseen_in w other.head other.page (λ same. other.another (same ∙ sym at))) none;
    child_nowhere = λ c h at unseen none. wrong_child L k c (names K L o k c part.agrees at h) (unseen_too unseen) none;
  }

  -- and back: a page that isn't seen of o is seen of none, or of another
  unseen_of_own : IsUnseen L k → IsUnseenOf K o k
  unseen_of_own unseen s is = unseen o s (seen K L o o k s part.agrees refl is)

  back_next : (l : Link) → LeadsTo L l k → l.object.0 ≡ o → k ≢ 0 → IsUnseen L k → ((x : CheckError) → StandsAt K k x → ⊥) → ⊥
  back_next l h at some unseen none =
      let here = leads L K o k l (agrees_back K L o part.agrees) at h in
      wrong_next K k l here some (λ w s is. elsewhere K l.object.0 k w s is
      (λ same. unseen_of_own unseen s (subst (λ v. IsPage K v k s) (same ∙ at) is))
      (λ other. none _ (StandsAt.NextElsewhere (record { link = l; owner = other.0; leads = here; elsewhere = other.1; is = refl })))) none

  back_child : (c : IndexRow) → NamesChild L c k → c.object.0 ≡ o → IsUnseen L k → ((x : CheckError) → StandsAt K k x → ⊥) → ⊥
  back_child c h at unseen none =
      let here = names L K o k c (agrees_back K L o part.agrees) at h in
      wrong_child K k c here (λ w s is. elsewhere K c.object.0 k w s is
      (λ same. unseen_of_own unseen s (subst (λ v. IsPage K v k s) (same ∙ at) is))
      (λ other. none _ (StandsAt.ChildElsewhere (record { row = c; owner = other.0; names = here; elsewhere = other.1; is = refl })))) none

  -- nothing is seen of another object in the part
  not_elsewhere : (v w : ℕ) → v ≡ o → IsSeenElsewhere L v k w → ⊥
  not_elsewhere v w at other = other.another (sym other.page.object ∙ (part.within other.head other.page.known).1 ∙ sym at)

  pub out_of_part : ShowsOthers L K o k
  out_of_part = record {
    next_elsewhere = λ l w h at other none. not_elsewhere l.object.0 w at other;
    next_nowhere = back_next;
    child_elsewhere = λ c w h at other none. not_elsewhere c.object.0 w at other;
    child_nowhere = back_child;
  }

-- each error is of a table that is known
pub record IsOfTable (K : Known) (x : CheckError) : Type 0 where
  pub root : ℕ
  pub table : IsTable K x.object root

of_table : (K : Known) (x : CheckError) (o r : ℕ) → IsTable K o r → x.object ≡ o → IsOfTable K x
of_table K x o r t at = record { root = r; table = subst (λ w. IsTable K w r) (sym at) t }

pub table_of : (K : Known) (k : ℕ) (x : CheckError) → StandsAt K k x → IsOfTable K x
table_of K k x (StandsAt.RootUnseen h) = of_table K x h.object k h.table (ap (λ (y : CheckError). y.object) h.is)
table_of K k x (StandsAt.TwoParents h) = of_table K x h.object h.root h.table (ap (λ (y : CheckError). y.object) h.is)
table_of K k x (StandsAt.WrongLevel h) = of_table K x h.row.object.0 h.parent.root h.parent.table (ap (λ (y : CheckError). y.object) h.is)
table_of K k x (StandsAt.WrongFirstKey (HasWrongFirstKey.ByRow c s w p f e)) = of_table K x c.object.0 p.root p.table (ap (λ (y : CheckError). y.object) e)
table_of K k x (StandsAt.WrongFirstKey (HasWrongFirstKey.ByCatalog v s w p f e)) = of_table K x v k p.table (ap (λ (y : CheckError). y.object) e)
table_of K k x (StandsAt.HighKey h) = of_table K x h.row.object.0 h.parent.root h.parent.table (ap (λ (y : CheckError). y.object) h.is)
table_of K k x (StandsAt.WrongPrev (HasWrongPrev.ByRow c s w p b d e)) = of_table K x c.object.0 p.root p.table (ap (λ (y : CheckError). y.object) e)
table_of K k x (StandsAt.WrongPrev (HasWrongPrev.ByCatalog v s p d e)) = of_table K x v k p.table (ap (λ (y : CheckError). y.object) e)
table_of K k x (StandsAt.NoPlace (HasNoPlace.NoParentNoPrev w r s t p n v e)) = of_table K x w r t (ap (λ (y : CheckError). y.object) e)
table_of K k x (StandsAt.NoPlace (HasNoPlace.NoParent w r s t p n v e)) = of_table K x w r t (ap (λ (y : CheckError). y.object) e)
table_of K k x (StandsAt.NoPlace (HasNoPlace.NoPrev w r s t p n v e)) = of_table K x w r t (ap (λ (y : CheckError). y.object) e)
table_of K k x (StandsAt.Crossed h) = of_table K x h.link.object.0 h.leads.root h.leads.table (ap (λ (y : CheckError). y.object) h.is)
table_of K k x (StandsAt.NextElsewhere h) = of_table K x h.link.object.0 h.leads.root h.leads.table (ap (λ (y : CheckError). y.object) h.is)
table_of K k x (StandsAt.NextNowhere h) = of_table K x h.link.object.0 h.leads.root h.leads.table (ap (λ (y : CheckError). y.object) h.is)
table_of K k x (StandsAt.ChildElsewhere h) = of_table K x h.row.object.0 h.names.root h.names.table (ap (λ (y : CheckError). y.object) h.is)
table_of K k x (StandsAt.ChildNowhere (IsChildNowhere.Linked c l n u p e)) = of_table K x c.object.0 n.root n.table (ap (λ (y : CheckError). y.object) e)
table_of K k x (StandsAt.ChildNowhere (IsChildNowhere.Alone c n u p e)) = of_table K x c.object.0 n.root n.table (ap (λ (y : CheckError). y.object) e)
