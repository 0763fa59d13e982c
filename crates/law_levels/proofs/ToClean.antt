-- Where no error of the rules of trees stands at an object, its pages are clean.
use Rattle.std.proofs.Common.{Bool, true, false, ◌≡◌, ◌≢◌, ◌⊎◌, ℕ, suc, ◌+◌, ◌<◌, ◌≤◌, Some, List, [], ◌∷◌, length, Contains, refl, sym, ap, ◌∙◌, subst, inl, inr, ⊎_elim, arith}
use Rattle.std.proofs.Common.{if◌then◌else◌, ◌==◌}
use Rattle.std.proofs.lemmas.Bool.{cases_eq, cases_lt, eq-eqb}
use Rattle.spec_check.proofs.Members.{nothing_there, cons_cases}
use Rattle.spec_check.specs.declared.report.CheckError.{CheckError}
use Rattle.spec_tree.specs.declared.known.PageHead.{PageHead}
use Rattle.spec_tree.specs.declared.known.Link.{Link}
use Rattle.spec_tree.specs.declared.known.RowPlace.{RowPlace}
use Rattle.spec_tree.specs.Known.{Known, IsTable, IsPage, IsLink, IsUnseenOf, IsUnseen}
use Rattle.spec_tree.specs.Parents as parents
use Rattle.spec_tree.specs.Parents.{ArePlaces, HasNoParent, HasParent, with_catalog, first_page, place_of, catalog_place}
use Rattle.spec_tree.specs.ParentRules.{tree_error, row_error, IsParentOf, IsRootOf, IsFirstKeyWrong, HasWrongFirstKey, HasWrongPrev}
use Rattle.spec_tree.specs.NeighbourRules.{HasNoPrev, HasNoPlace, LeadsTo, NamesChild, IsChildNowhere}
use Rattle.spec_tree.specs.Trees.{StandsAt}
use Rattle.spec_levels.specs.Levels.{Row, first_key, keys_of}
use Rattle.spec_levels.specs.Pages.{Page, page_of, prev_of, next_of, level_of, keys_on}
use Rattle.law_levels.specs.Known.{AreWellFormed, Parent, first_in, head_on, link_on, parent_row, HasNoTreeErrors}
use Rattle.law_levels.proofs.Clean.{IsClean, High, Before, FirstFits}
use Rattle.law_levels.proofs.Facts.{IsKnownOf}
use Rattle.law_levels.proofs.Search.{found_by, page_found, parent_found}
use Rattle.law_levels.proofs.Places.{place_at, row_is, row_from, places_of}
use Rattle.law_levels.proofs.Lists.{some_rows}

pub page_is : (K : Known) (o root : ℕ) (seen : List Page) → IsKnownOf K o root seen → (p : Page) → Contains seen p → IsPage K o (page_of p) (head_on o p)
page_is K o root seen is p i = record { known = is.head p i; object = refl; page = refl }

pub page_from : (K : Known) (o root : ℕ) (seen : List Page) → IsKnownOf K o root seen → (k : ℕ) (s : PageHead) → IsPage K o k s
    → (p : Page) × Contains seen p × (s ≡ head_on o p) × (page_of p ≡ k)
page_from K o root seen is k s h =
    let r = is.is_head s h.known h.object in (r.0, r.1, r.2, ap (λ (t : PageHead). t.page.0) (sym r.2) ∙ h.page)

pub link_is : (K : Known) (o root : ℕ) (seen : List Page) → IsKnownOf K o root seen → (p : Page) → Contains seen p → IsLink K o (next_of p) (link_on o p)
link_is K o root seen is p i = record { known = is.link p i; object = refl; next = refl }

pub link_from : (K : Known) (o root : ℕ) (seen : List Page) → IsKnownOf K o root seen → (k : ℕ) (l : Link) → IsLink K o k l
    → (p : Page) × Contains seen p × (l ≡ link_on o p) × (next_of p ≡ k)
link_from K o root seen is k l h =
    let r = is.is_link l h.known h.object in (r.0, r.1, r.2, ap (λ (t : Link). t.next.0) (sym r.2) ∙ h.next)

parent_is : (K : Known) (o root : ℕ) (seen : List Page) → IsKnownOf K o root seen → (p : Page) → Contains seen p → (a : Parent seen (page_of p))
    → IsParentOf K (parent_row o seen (page_of p) a) (page_of p) (head_on o p)
parent_is K o root seen is p i a = record { root = root; table = is.table; row = row_is K o root seen is (page_of p) a; page = page_is K o root seen is p i }

root_is : (K : Known) (o root : ℕ) (seen : List Page) → IsKnownOf K o root seen → (p : Page) → Contains seen p → page_of p ≡ root → IsRootOf K o (page_of p) (head_on o p)
root_is K o root seen is p i at = record { table = subst (IsTable K o) (sym at) is.table; page = page_is K o root seen is p i }

-- a number that can't differ is the same
same_or : (a b : ℕ) → (a ≢ b → ⊥) → a ≡ b
same_or a b h = ⊎_elim (λ e. e) (λ no. absurd (h no)) (cases_eq a b)

low_or : (a b : ℕ) → (b < a → ⊥) → a ≤ b
low_or a b h = ⊎_elim (λ less. absurd (h less)) (λ low. low) (cases_lt b a)

less_or : (a b : ℕ) → (b ≤ a → ⊥) → a < b
less_or a b h = ⊎_elim (λ less. less) (λ low. absurd (h low)) (cases_lt a b)

pub first_same : (rows : List (Row ℕ)) → first_in (keys_of rows) ≡ first_key rows
first_same [] = refl
first_same (row ∷ rows) = refl

first_fits : (o : ℕ) (seen : List Page) → AreWellFormed seen → (low : ℕ) (p : Page) → Contains seen p
    → ((first : ℕ) → IsFirstKeyWrong (head_on o p) low first → ⊥) → FirstFits low p
first_fits o seen pages low (Page.LeafPage n) i right = λ key is. low_or low key (λ less. right key (IsFirstKeyWrong.OfLeaf refl is less))
first_fits o seen pages low (Page.IndexPage l n) i right =
    let some = some_rows n.rows (pages.some_row l n i) in
    let key = some.0.key in
    let first : first_key n.rows ≡ Some key = ap first_key some.2 in
    let is : first_in (keys_on (Page.IndexPage l n)) ≡ Some key = first_same n.rows ∙ first in
    let same = same_or key low (λ no. right key (IsFirstKeyWrong.OfIndex (pages.levels l n i).0 is no)) in
    first ∙ ap Some same

high_is : (K : Known) (o root : ℕ) (seen : List Page) → IsKnownOf K o root seen → AreWellFormed seen → (k : ℕ) (a : Parent seen k) (w : ℕ) → High seen a.node a.back w
    → parents.High K (parent_row o seen k a) w
high_is K o root seen is pages k a w (High.Within e) = parents.High.Within e
high_is K o root seen is pages k a w (High.Beyond l m none i page first) =
    let p = Page.IndexPage l m in
    parents.High.Beyond (head_on o p) none (record { page = record { known = is.head p i; object = refl; page = page }; index = (pages.levels l m i).0 }) (first_same m.rows ∙ first)

before_is : (K : Known) (o root : ℕ) (seen : List Page) → IsKnownOf K o root seen → AreWellFormed seen → (k : ℕ) (a : Parent seen k) (w : ℕ) → Before seen a.node a.front w
    → parents.Before K (parent_row o seen k a) w
before_is K o root seen is pages k a w (Before.Within some e) = parents.Before.Within some e
before_is K o root seen is pages k a w (Before.Leftmost none e f) = parents.Before.Leftmost none e f
before_is K o root seen is pages k a w (Before.Beyond l m none some i page last) =
    let p = Page.IndexPage l m in
    parents.Before.Beyond (head_on o p) none some (record { page = record { known = is.head p i; object = refl; page = page }; index = (pages.levels l m i).0 }) last

-- an error at page k is none
none : (K : Known) (o k : ℕ) (x : CheckError) → HasNoTreeErrors K o → x.object ≡ o → StandsAt K k x → ⊥
none K o k x free at stands = free x at (k, stands)

root_seen : (K : Known) (o root : ℕ) (seen : List Page) → IsKnownOf K o root seen → HasNoTreeErrors K o → (p : Page) × Contains seen p × (page_of p ≡ root)
root_seen K o root seen is free = ⊎_elim (λ found. found)
    (λ unseen. absurd (none K o root (tree_error 8928 o root 0 0 1) free refl (StandsAt.RootUnseen (record {
      object = o;
      table = is.table;
      unseen = λ s h. let p = page_from K o root seen is root s h in unseen p.0 p.1 p.3;
      is = refl;
    })))) (page_found seen root)

root_prev : (K : Known) (o root : ℕ) (seen : List Page) → IsKnownOf K o root seen → HasNoTreeErrors K o → (p : Page) → Contains seen p → page_of p ≡ root → prev_of p ≡ 0
root_prev K o root seen is free p i at = same_or (prev_of p) 0 (λ no.
    none K o (page_of p) (tree_error 8935 o (page_of p) 0 0 (prev_of p)) free refl
    (StandsAt.WrongPrev (HasWrongPrev.ByCatalog o (head_on o p) (root_is K o root seen is p i at) no refl)))

-- the pages that a row or a page names are seen
not_elsewhere : (K : Known) (o root : ℕ) (seen : List Page) → IsKnownOf K o root seen → (k : ℕ) → ((p : Page) → Contains seen p → page_of p ≡ k → ⊥)
    → ((w : ℕ) → w ≢ o → IsUnseenOf K w k) → IsUnseen K k
not_elsewhere K o root seen is k unseen others w s h = ⊎_elim
    (λ same. let p = page_from K o root seen is k s (subst (λ v. IsPage K v k s) same h) in unseen p.0 p.1 p.3)
    (λ no. others w no s h) (cases_eq w o)

names_child : (K : Known) (o root : ℕ) (seen : List Page) → IsKnownOf K o root seen → (k : ℕ) (a : Parent seen k) → NamesChild K (parent_row o seen k a) k
names_child K o root seen is k a = record { root = root; table = is.table; row = row_is K o root seen is k a }

leads_to : (K : Known) (o root : ℕ) (seen : List Page) → IsKnownOf K o root seen → (p : Page) → Contains seen p → (k : ℕ) → next_of p ≡ k → LeadsTo K (link_on o p) k
leads_to K o root seen is p i k at = record { root = root; table = is.table; link = record { known = is.link p i; object = refl; next = at } }

child_nowhere : (K : Known) (o root : ℕ) (seen : List Page) → IsKnownOf K o root seen → HasNoTreeErrors K o → (k : ℕ) → Parent seen k → IsUnseen K k → ⊥
child_nowhere K o root seen is free k a unseen =
    let c = parent_row o seen k a in
    let names = names_child K o root seen is k a in
    ⊎_elim (λ linked. none K o k (row_error 8976 c k 0) free refl
    (StandsAt.ChildNowhere (IsChildNowhere.Linked c (link_on o linked.0) names unseen (record { known = is.link linked.0 linked.1; object = refl; next = linked.2 }) refl)))
    (λ alone. none K o k (row_error 8980 c k 0) free refl
    (StandsAt.ChildNowhere (IsChildNowhere.Alone c names unseen (λ l h. let p = link_from K o root seen is k l h in alone p.0 p.1 p.3) refl)))
    (found_by next_of seen k)

child_seen : (K : Known) (o root : ℕ) (seen : List Page) → IsKnownOf K o root seen → HasNoTreeErrors K o → (k : ℕ) → Parent seen k → (p : Page) × Contains seen p × (page_of p ≡ k)
child_seen K o root seen is free k a = ⊎_elim (λ found. found)
    (λ unseen. absurd (⊎_elim
    (λ other. none K o k (row_error 8925 (parent_row o seen k a) k other.0) free refl
    (StandsAt.ChildElsewhere (record { row = parent_row o seen k a; owner = other.0; names = names_child K o root seen is k a; elsewhere = other.1; is = refl })))
    (λ others. child_nowhere K o root seen is free k a (not_elsewhere K o root seen is k unseen others))
    (is.elsewhere k))) (page_found seen k)

next_seen : (K : Known) (o root : ℕ) (seen : List Page) → IsKnownOf K o root seen → HasNoTreeErrors K o → (p : Page) → Contains seen p → next_of p ≢ 0
    → (q : Page) × Contains seen q × (page_of q ≡ next_of p)
next_seen K o root seen is free p i some =
    let k = next_of p in
    let leads = leads_to K o root seen is p i k refl in
    ⊎_elim (λ found. found)
    (λ unseen. absurd (⊎_elim
    (λ other. none K o k (tree_error 8982 o (page_of p) k 0 other.0) free refl
    (StandsAt.NextElsewhere (record { link = link_on o p; owner = other.0; leads = leads; elsewhere = other.1; is = refl })))
    (λ others. let nowhere = not_elsewhere K o root seen is k unseen others in
    ⊎_elim (λ a. child_nowhere K o root seen is free k a nowhere)
    (λ no. none K o k (tree_error 8981 o (page_of p) k 0 0) free refl
    (StandsAt.NextNowhere (record {
      link = link_on o p;
      leads = leads;
      some = some;
      unseen = nowhere;
      no_row = λ c h. no (row_from K o root seen is k c h).0;
      is = refl;
    }))) (parent_found seen k))
    (is.elsewhere k))) (page_found seen k)

-- a page has one place at most, and a root the catalog's
few_places : (K : Known) (o root : ℕ) (seen : List Page) → IsKnownOf K o root seen → HasNoTreeErrors K o → (k : ℕ) → Parent seen k → (ps : List RowPlace) → ArePlaces K o k ps
    → length (with_catalog root k ps) < 2
few_places K o root seen is free k a ps are =
    let p = child_seen K o root seen is free k a in
    let all = with_catalog root k ps in
    less_or (length all) 2 (λ two. none K o k (tree_error 8937 o k (first_page all) 0 (length all)) free refl
    (StandsAt.TwoParents (record {
      object = o;
      root = root;
      head = head_on o p.0;
      places = ps;
      table = is.table;
      page = record { known = is.head p.0 p.1; object = refl; page = p.2 };
      are = are;
      two = two;
      is = refl;
    })))

if_length : (b : Bool) (ps : List RowPlace) → length ps ≤ length (if b then catalog_place ∷ ps else ps)
if_length true ps = omega arith
if_length false ps = omega arith

only_one : (ps : List RowPlace) (x y : RowPlace) → length ps < 2 → Contains ps x → Contains ps y → x ≡ y
only_one [] x y few i j = absurd (nothing_there x i)
only_one (z ∷ []) x y few i j =
    ⊎_elim (λ e. ⊎_elim (λ f. sym e ∙ f) (λ t. absurd (nothing_there y t)) (cons_cases z [] y j)) (λ t. absurd (nothing_there x t)) (cons_cases z [] x i)
only_one (z ∷ (w ∷ ps)) x y few i j = absurd (omega (arith, few))

one_parent : (K : Known) (o root : ℕ) (seen : List Page) → IsKnownOf K o root seen → HasNoTreeErrors K o → (k : ℕ) (a b : Parent seen k)
    → (a.node.page ≡ b.node.page) × (length a.front ≡ length b.front)
one_parent K o root seen is free k a b =
    let ps = places_of K o root seen is k in
    let few = few_places K o root seen is free k a ps.0 ps.1 in
    let more = if_length (root == k) ps.0 in
    let same = only_one ps.0 (place_at seen k a) (place_at seen k b) (omega (arith, few, more))
    (ps.1.complete (parent_row o seen k a) (row_is K o root seen is k a)) (ps.1.complete (parent_row o seen k b) (row_is K o root seen is k b)) in
    (ap (λ (q : RowPlace). q.page.0) same, ap (λ (q : RowPlace). q.slot) same)

root_free : (K : Known) (o root : ℕ) (seen : List Page) → IsKnownOf K o root seen → HasNoTreeErrors K o → Parent seen root → ⊥
root_free K o root seen is free a =
    let ps = places_of K o root seen is root in
    let few = few_places K o root seen is free root a ps.0 ps.1 in
    let here = ps.1.complete (parent_row o seen root a) (row_is K o root seen is root a) in
    let more : length (with_catalog root root ps.0) ≡ suc (length ps.0) = ap (λ b. length (if b then catalog_place ∷ ps.0 else ps.0)) (eq-eqb root root refl) in
    omega (arith, few, more, here.1)

has_parent : (K : Known) (o root : ℕ) (seen : List Page) → IsKnownOf K o root seen → HasNoTreeErrors K o → (p : Page) → Contains seen p → (page_of p ≡ root) ⊎ Parent seen (page_of p)
has_parent K o root seen is free p i =
    let k = page_of p in
    let s = head_on o p in
    let page = page_is K o root seen is p i in
    ⊎_elim (λ e. inl e) (λ no. ⊎_elim (λ a. inr a)
    (λ no_row. let out : HasNoParent K o root k = record { not_root = no; no_row = λ c h. no_row (row_from K o root seen is k c h).0 } in
    absurd (none K o k (tree_error 8977 o k 0 0 0) free refl
    (StandsAt.NoPlace (HasNoPlace.NoParent o root s is.table page out
    (λ alone. none K o k (tree_error 8979 o k (prev_of p) 0 0) free refl
    (StandsAt.NoPlace (HasNoPlace.NoParentNoPrev o root s is.table page out alone refl))) refl))))
    (parent_found seen k)) (cases_eq k root)

some_parent : (K : Known) (o root : ℕ) (seen : List Page) → IsKnownOf K o root seen → (k : ℕ) → (k ≡ root) ⊎ Parent seen k → HasParent K o root k
some_parent K o root seen is k h = ⊎_elim (λ e. inl e) (λ a. inr (parent_row o seen k a, row_is K o root seen is k a)) h

linked : (K : Known) (o root : ℕ) (seen : List Page) → IsKnownOf K o root seen → AreWellFormed seen → HasNoTreeErrors K o → (p : Page) → Contains seen p → prev_of p ≢ 0
    → (q : Page) × Contains seen q × (next_of q ≡ page_of p) × (page_of q ≡ prev_of p)
linked K o root seen is pages free p i some =
    let k = page_of p in
    let no : HasNoPrev K (head_on o p) → ⊥ = λ alone. none K o k (tree_error 8978 o k (prev_of p) 0 0) free refl
    (StandsAt.NoPlace (HasNoPlace.NoPrev o root (head_on o p) is.table (page_is K o root seen is p i)
    (some_parent K o root seen is k (has_parent K o root seen is free p i)) alone refl)) in
    ⊎_elim (λ q. ⊎_elim (λ e. (q.0, q.1, e, q.2))
    (λ differs. absurd (no (record {
      some = some;
      unlinked = λ l h e. let r = link_from K o root seen is k l h in
          let at : page_of r.0 ≡ prev_of p = ap (λ (t : Link). t.page.0) (sym r.2) ∙ e in
          let same = pages.once r.0 q.0 r.1 q.1 (at ∙ sym q.2) in
          differs (sym (ap next_of same) ∙ r.3);
    }))) (cases_eq (next_of q.0) k))
    (λ unseen. absurd (no (record {
      some = some;
      unlinked = λ l h e. let r = link_from K o root seen is k l h in unseen r.0 r.1 (ap (λ (t : Link). t.page.0) (sym r.2) ∙ e);
    }))) (page_found seen (prev_of p))

crossed : (K : Known) (o root : ℕ) (seen : List Page) → IsKnownOf K o root seen → HasNoTreeErrors K o → (p q : Page) → Contains seen p → Contains seen q → page_of q ≡ next_of p
    → prev_of q ≡ page_of p
crossed K o root seen is free p q i j at = same_or (prev_of q) (page_of p) (λ differs.
    none K o (page_of q) (tree_error 8936 o (page_of p) (page_of q) 0 (prev_of q)) free refl
    (StandsAt.Crossed (record {
      link = link_on o p;
      head = head_on o q;
      leads = leads_to K o root seen is p i (page_of q) (sym at);
      page = page_is K o root seen is q j;
      differs = differs;
      is = refl;
    })))

-- where no error stands, the pages are clean
pub free_is_clean : (K : Known) (o root : ℕ) (seen : List Page) → IsKnownOf K o root seen → AreWellFormed seen → HasNoTreeErrors K o → IsClean root seen
free_is_clean K o root seen is pages free = record {
  root_seen = root_seen K o root seen is free;
  root_prev = root_prev K o root seen is free;
  root_first = λ p i at. first_fits o seen pages 0 p i (λ first wrong.
      none K o (page_of p) (tree_error 8933 o (page_of p) 0 0 first) free refl
      (StandsAt.WrongFirstKey (HasWrongFirstKey.ByCatalog o (head_on o p) first (root_is K o root seen is p i at) wrong refl)));
  child_seen = child_seen K o root seen is free;
  next_seen = next_seen K o root seen is free;
  one_parent = one_parent K o root seen is free;
  root_free = root_free K o root seen is free;
  level = λ p i a. same_or (level_of p + 1) a.level (λ differs.
      none K o (page_of p) (row_error 8931 (parent_row o seen (page_of p) a) (page_of p) (level_of p)) free refl
      (StandsAt.WrongLevel (record { row = parent_row o seen (page_of p) a; head = head_on o p; parent = parent_is K o root seen is p i a; differs = differs; is = refl })));
  first = λ p i a. first_fits o seen pages a.row.key p i (λ first wrong.
      none K o (page_of p) (row_error 8933 (parent_row o seen (page_of p) a) (page_of p) first) free refl
      (StandsAt.WrongFirstKey (HasWrongFirstKey.ByRow (parent_row o seen (page_of p) a) (head_on o p) first (parent_is K o root seen is p i a) wrong refl)));
  high = λ p i a key w last h. less_or key w (λ above.
      none K o (page_of p) (row_error 8934 (parent_row o seen (page_of p) a) (page_of p) key) free refl
      (StandsAt.HighKey (record {
        row = parent_row o seen (page_of p) a;
        head = head_on o p;
        last = key;
        high = w;
        parent = parent_is K o root seen is p i a;
        key = last;
        limit = high_is K o root seen is pages (page_of p) a w h;
        above = above;
        is = refl;
      })));
  prev = λ p i a w h. same_or (prev_of p) w (λ differs.
      none K o (page_of p) (row_error 8935 (parent_row o seen (page_of p) a) (page_of p) (prev_of p)) free refl
      (StandsAt.WrongPrev (HasWrongPrev.ByRow (parent_row o seen (page_of p) a) (head_on o p) w (parent_is K o root seen is p i a)
      (before_is K o root seen is pages (page_of p) a w h) differs refl)));
  parent = has_parent K o root seen is free;
  linked = linked K o root seen is pages free;
  crossed = crossed K o root seen is free;
}
