-- Where the pages of an object are clean, no error of the rules of trees stands at it.
use Rattle.std.proofs.Common.{◌≡◌, ◌≢◌, ℕ, suc, ◌+◌, ◌<◌, ◌≤◌, Some, List, [], ◌∷◌, length, Contains, refl, sym, ap, ◌∙◌, subst, ⊎_elim, arith}
use Rattle.std.proofs.Common.{if◌then◌else◌, ◌==◌}
use Rattle.std.specs.List.Sorted.{IsStrictlySortedBy}
use Rattle.std.specs.declared.cmp.Ordering.TheVariants.{Less, Equal}
use Rattle.std.proofs.lemmas.Bool.{cases_Bool, eqb-true}
use Rattle.std.proofs.lemmas.Cmp.{tied_itself}
use Rattle.spec_check.proofs.Members.{cons_here, cons_there}
use Rattle.spec_check.specs.declared.report.CheckError.{CheckError}
use Rattle.spec_tree.specs.declared.known.PageHead.{PageHead}
use Rattle.spec_tree.specs.declared.known.Link.{Link}
use Rattle.spec_tree.specs.declared.known.IndexRow.{IndexRow}
use Rattle.spec_tree.specs.declared.known.RowPlace.{RowPlace}
use Rattle.spec_tree.specs.Known.{Known, IsTable, IsPage, IsLink, IsRow, IsUnseen, IsSeenElsewhere, IsIndexPage}
use Rattle.spec_tree.specs.Parents as parents
use Rattle.spec_tree.specs.Parents.{ArePlaces, HasNoParent, HasParent, with_catalog, first_page, place_of, place_cmp, catalog_place}
use Rattle.spec_tree.specs.ParentRules.{tree_error, row_error, IsParentOf, IsFirstKeyWrong, HasWrongFirstKey, HasWrongPrev, IsRootUnseen, HasTwoParents, HasWrongLevel, HasHighKey}
use Rattle.spec_tree.specs.NeighbourRules.{HasNoPrev, HasNoPlace, NamesChild, IsChildNowhere, IsCrossed, IsNextElsewhere, IsNextNowhere, IsChildElsewhere}
use Rattle.spec_tree.specs.Trees.{StandsAt}
use Rattle.spec_levels.specs.Levels.{Index}
use Rattle.spec_levels.specs.Pages.{Page, page_of, prev_of, next_of, level_of}
use Rattle.law_levels.specs.Known.{AreWellFormed, Parent, head_on, link_on, parent_row, HasNoTreeErrors}
use Rattle.law_levels.proofs.Clean.{IsClean, High, Before, FirstFits}
use Rattle.law_levels.proofs.Facts.{IsKnownOf}
use Rattle.law_levels.proofs.Places.{place, place_at, place_total, sorted_parts, to_parent, row_is, row_from}
use Rattle.law_levels.proofs.ToClean.{page_from, link_from, first_same}

-- a parent that is known, as rows of the pages seen
record ParentSeen (o : ℕ) (seen : List Page) (c : IndexRow) (k : ℕ) (s : PageHead) : Type 0 where
  p : Page
  on : Contains seen p
  page : page_of p ≡ k
  a : Parent seen (page_of p)
  head : s ≡ head_on o p
  row : c ≡ parent_row o seen (page_of p) a

parent_seen : (K : Known) (o root : ℕ) (seen : List Page) → IsKnownOf K o root seen → (k : ℕ) (c : IndexRow) (s : PageHead) → IsParentOf K c k s → c.object.0 ≡ o
    → ParentSeen o seen c k s
parent_seen K o root seen is k c s h at =
    let p = page_from K o root seen is k s (subst (λ n. IsPage K n k s) at h.page) in
    let r = row_from K o root seen is k c (subst (λ n. IsRow K n k c) at h.row) in
    record { p = p.0; on = p.1; page = p.3; a = to_parent seen k (page_of p.0) r.0 (sym p.3); head = p.2; row = r.1 }

first_right : (o : ℕ) (seen : List Page) → AreWellFormed seen → (low : ℕ) (p : Page) → Contains seen p → FirstFits low p
    → (first : ℕ) → IsFirstKeyWrong (head_on o p) low first → ⊥
first_right o seen pages low (Page.LeafPage n) i fits first (IsFirstKeyWrong.OfLeaf level is less) = let low_is = fits first is in omega (arith, low_is, less)
first_right o seen pages low (Page.LeafPage n) i fits first (IsFirstKeyWrong.OfIndex level is differs) = omega (arith, level)
first_right o seen pages low (Page.IndexPage l n) i fits first (IsFirstKeyWrong.OfLeaf level is less) = let some = (pages.levels l n i).0 in omega (arith, level, some)
first_right o seen pages low (Page.IndexPage l n) i fits first (IsFirstKeyWrong.OfIndex level is differs) =
    let same : Some first ≡ Some low = sym is ∙ (first_same n.rows ∙ fits) in differs (cc)

as_index : (p : Page) → 0 < level_of p → (l : ℕ) × (n : Index) × (p ≡ Page.IndexPage l n)
as_index (Page.LeafPage n) h = absurd (omega (arith, h))
as_index (Page.IndexPage l n) h = (l, n, refl)

index_from : (K : Known) (o root : ℕ) (seen : List Page) → IsKnownOf K o root seen → (k : ℕ) (m : PageHead) → IsIndexPage K o k m
    → (l : ℕ) × (n : Index) × Contains seen (Page.IndexPage l n) × (m ≡ head_on o (Page.IndexPage l n)) × (n.page ≡ k)
index_from K o root seen is k m h =
    let p = page_from K o root seen is k m h.page in
    let i = as_index p.0 (subst (λ (s : PageHead). 0 < s.level) p.2 h.index) in
    (i.0, i.1, subst (Contains seen) i.2 p.1, p.2 ∙ ap (head_on o) i.2, sym (ap page_of i.2) ∙ p.3)

high_from : (K : Known) (o root : ℕ) (seen : List Page) → IsKnownOf K o root seen → (k : ℕ) (a : Parent seen k) (w : ℕ) → parents.High K (parent_row o seen k a) w
    → High seen a.node a.back w
high_from K o root seen is k a w (parents.High.Within e) = High.Within e
high_from K o root seen is k a w (parents.High.Beyond m none index first) =
    let r = index_from K o root seen is a.node.next m index in
    High.Beyond r.0 r.1 none r.2 r.4 (sym (first_same r.1.rows) ∙ (ap (λ (s : PageHead). s.first) (sym r.3) ∙ first))

before_from : (K : Known) (o root : ℕ) (seen : List Page) → IsKnownOf K o root seen → (k : ℕ) (a : Parent seen k) (w : ℕ) → parents.Before K (parent_row o seen k a) w
    → Before seen a.node a.front w
before_from K o root seen is k a w (parents.Before.Within some e) = Before.Within some e
before_from K o root seen is k a w (parents.Before.Leftmost none e f) = Before.Leftmost none e f
before_from K o root seen is k a w (parents.Before.Beyond m none some index last) =
    let r = index_from K o root seen is a.node.prev m index in
    Before.Beyond r.0 r.1 none some r.2 r.4 (ap (λ (s : PageHead). s.last_child.0) (sym r.3) ∙ last)

-- of whom an error speaks
of_object : (x y : CheckError) (o : ℕ) → x ≡ y → x.object ≡ o → y.object ≡ o
of_object x y o e at = ap (λ (z : CheckError). z.object) (sym e) ∙ at

root_of : (K : Known) (o root : ℕ) (seen : List Page) → IsKnownOf K o root seen → (p r : ℕ) → p ≡ o → IsTable K p r → r ≡ root
root_of K o root seen is p r at t = is.one_table r (subst (λ n. IsTable K n r) at t)

-- a page with two places or more
two_parents : (K : Known) (o root : ℕ) (seen : List Page) → IsKnownOf K o root seen → IsClean root seen → (k : ℕ) (ps : List RowPlace) → ArePlaces K o k ps
    → 2 ≤ length (with_catalog root k ps) → ⊥
two_parents K o root seen is clean k ps are two = ⊎_elim
    (λ same. let at = eqb-true root k same in
    let more : length (with_catalog root k ps) ≡ suc (length ps) = ap (λ b. length (if b then catalog_place ∷ ps else ps)) same in
    none_of ps (omega (arith, more, two)) (λ q i. let c = are.sound q i in
    clean.root_free (to_parent seen k root (row_from K o root seen is k c.0 c.1).0 (sym at))))
    (λ other. let just : length (with_catalog root k ps) ≡ length ps = ap (λ b. length (if b then catalog_place ∷ ps else ps)) other in
    two_of ps are.sorted (omega (arith, just, two)) (λ q r i j.
    let c = are.sound q i in
    let d = are.sound r j in
    let a = row_from K o root seen is k c.0 c.1 in
    let b = row_from K o root seen is k d.0 d.1 in
    let same = clean.one_parent k a.0 b.0 in
    let here : q ≡ place_at seen k a.0 = sym c.2 ∙ ap place_of a.1 in
    let there : r ≡ place_at seen k b.0 = sym d.2 ∙ ap place_of b.1 in
    here ∙ (same_place seen k a.0 b.0 same.0 same.1 ∙ sym there)))
    (cases_Bool (root == k))
  where
    none_of : (ps : List RowPlace) → 1 ≤ length ps → ((q : RowPlace) → Contains ps q → ⊥) → ⊥
    none_of [] some never = omega (arith, some)
    none_of (q ∷ ps) some never = never q (cons_here q ps)

    two_of : (ps : List RowPlace) → IsStrictlySortedBy place_cmp ps → 2 ≤ length ps → ((q r : RowPlace) → Contains ps q → Contains ps r → q ≡ r) → ⊥
    two_of [] s two same = omega (arith, two)
    two_of (q ∷ []) s two same = omega (arith, two)
    two_of (q ∷ (r ∷ ps)) s two same =
        let less = (sorted_parts place_cmp q (r ∷ ps) s).0 r (cons_here r ps) in
        let e = same q r (cons_here q (r ∷ ps)) (cons_there q (r ∷ ps) r (cons_here r ps)) in
        let tied : place_cmp q q ≡ Equal = tied_itself place_total q in
        let clash : Less ≡ Equal = sym less ∙ (ap (place_cmp q) (sym e) ∙ tied) in absurd (cc)

    same_place : (seen : List Page) (k : ℕ) (a b : Parent seen k) → a.node.page ≡ b.node.page → length a.front ≡ length b.front → place_at seen k a ≡ place_at seen k b
    same_place seen k a b page slot =
        ap (λ n. place n (length a.front)) page ∙ ap (place b.node.page) slot

root_unseen : (K : Known) (o root : ℕ) (seen : List Page) → IsKnownOf K o root seen → IsClean root seen → (k : ℕ) (x : CheckError) → x.object ≡ o → IsRootUnseen K k x → ⊥
root_unseen K o root seen is clean k x at h =
    let mine = of_object x (tree_error 8928 h.object k 0 0 1) o h.is at in
    let same : k ≡ root = root_of K o root seen is h.object k mine h.table in
    let p = clean.root_seen in
    h.unseen (head_on o p.0) (record { known = is.head p.0 p.1; object = sym mine; page = p.2 ∙ sym same })

places_two : (K : Known) (o root : ℕ) (seen : List Page) → IsKnownOf K o root seen → IsClean root seen → (k : ℕ) (x : CheckError) → x.object ≡ o → HasTwoParents K k x → ⊥
places_two K o root seen is clean k x at h =
    let mine = ap (λ (z : CheckError). z.object) (sym h.is) ∙ at in
    let same : h.root ≡ root = root_of K o root seen is h.object h.root mine h.table in
    two_parents K o root seen is clean k h.places (subst (λ n. ArePlaces K n k h.places) mine h.are)
    (subst (λ r. 2 ≤ length (with_catalog r k h.places)) same h.two)

wrong_level : (K : Known) (o root : ℕ) (seen : List Page) → IsKnownOf K o root seen → IsClean root seen → (k : ℕ) (x : CheckError) → x.object ≡ o → HasWrongLevel K k x → ⊥
wrong_level K o root seen is clean k x at h =
    let mine = of_object x (row_error 8931 h.row k h.head.level) o h.is at in
    let f = parent_seen K o root seen is k h.row h.head h.parent mine in
    h.differs (ap (λ (s : PageHead). s.level + 1) f.head ∙ (clean.level f.p f.on f.a ∙ ap (λ (c : IndexRow). c.level) (sym f.row)))

wrong_first : (K : Known) (o root : ℕ) (seen : List Page) → IsKnownOf K o root seen → AreWellFormed seen → IsClean root seen → (k : ℕ) (x : CheckError) → x.object ≡ o
    → HasWrongFirstKey K k x → ⊥
wrong_first K o root seen is pages clean k x at (HasWrongFirstKey.ByRow c s w p wrong e) =
    let f = parent_seen K o root seen is k c s p (of_object x (row_error 8933 c k w) o e at) in
    first_right o seen pages f.a.row.key f.p f.on (clean.first f.p f.on f.a) w
    (subst (λ (d : IndexRow). IsFirstKeyWrong (head_on o f.p) d.key w) f.row (subst (λ (t : PageHead). IsFirstKeyWrong t c.key w) f.head wrong))
wrong_first K o root seen is pages clean k x at (HasWrongFirstKey.ByCatalog n s w r wrong e) =
    let mine = of_object x (tree_error 8933 n k 0 0 w) o e at in
    let p = page_from K o root seen is k s (subst (λ m. IsPage K m k s) mine r.page) in
    let same : k ≡ root = root_of K o root seen is n k mine r.table in
    first_right o seen pages 0 p.0 p.1 (clean.root_first p.0 p.1 (p.3 ∙ same)) w (subst (λ (t : PageHead). IsFirstKeyWrong t 0 w) p.2 wrong)

high_key : (K : Known) (o root : ℕ) (seen : List Page) → IsKnownOf K o root seen → IsClean root seen → (k : ℕ) (x : CheckError) → x.object ≡ o → HasHighKey K k x → ⊥
high_key K o root seen is clean k x at h =
    let mine = of_object x (row_error 8934 h.row k h.last) o h.is at in
    let f = parent_seen K o root seen is k h.row h.head h.parent mine in
    let limit = high_from K o root seen is (page_of f.p) f.a h.high (subst (λ c. parents.High K c h.high) f.row h.limit) in
    let below = clean.high f.p f.on f.a h.last h.high (ap (λ (s : PageHead). s.last) (sym f.head) ∙ h.key) limit in
    let above = h.above in omega (arith, below, above)

wrong_prev : (K : Known) (o root : ℕ) (seen : List Page) → IsKnownOf K o root seen → IsClean root seen → (k : ℕ) (x : CheckError) → x.object ≡ o → HasWrongPrev K k x → ⊥
wrong_prev K o root seen is clean k x at (HasWrongPrev.ByRow c s w p b differs e) =
    let f = parent_seen K o root seen is k c s p (of_object x (row_error 8935 c k s.prev.0) o e at) in
    let before = before_from K o root seen is (page_of f.p) f.a w (subst (λ d. parents.Before K d w) f.row b) in
    differs (ap (λ (t : PageHead). t.prev.0) f.head ∙ clean.prev f.p f.on f.a w before)
wrong_prev K o root seen is clean k x at (HasWrongPrev.ByCatalog n s r differs e) =
    let mine = of_object x (tree_error 8935 n k 0 0 s.prev.0) o e at in
    let p = page_from K o root seen is k s (subst (λ m. IsPage K m k s) mine r.page) in
    let same : k ≡ root = root_of K o root seen is n k mine r.table in
    differs (ap (λ (t : PageHead). t.prev.0) p.2 ∙ clean.root_prev p.0 p.1 (p.3 ∙ same))

no_parent : (K : Known) (o root : ℕ) (seen : List Page) → IsKnownOf K o root seen → IsClean root seen → (n r k : ℕ) (s : PageHead) → n ≡ o → IsTable K n r → IsPage K n k s
    → HasNoParent K n r k → ⊥
no_parent K o root seen is clean n r k s mine t page out =
    let p = page_from K o root seen is k s (subst (λ m. IsPage K m k s) mine page) in
    let same : r ≡ root = root_of K o root seen is n r mine t in
    ⊎_elim (λ e. out.not_root (sym p.3 ∙ (e ∙ sym same)))
    (λ a. let b = to_parent seen (page_of p.0) k a p.3 in
    out.no_row (parent_row o seen k b) (subst (λ m. IsRow K m k (parent_row o seen k b)) (sym mine) (row_is K o root seen is k b)))
    (clean.parent p.0 p.1)

no_prev : (K : Known) (o root : ℕ) (seen : List Page) → IsKnownOf K o root seen → IsClean root seen → (n k : ℕ) (s : PageHead) → n ≡ o → IsPage K n k s → HasNoPrev K s → ⊥
no_prev K o root seen is clean n k s mine page alone =
    let p = page_from K o root seen is k s (subst (λ m. IsPage K m k s) mine page) in
    let prev : s.prev.0 ≡ prev_of p.0 = ap (λ (t : PageHead). t.prev.0) p.2 in
    let q = clean.linked p.0 p.1 (λ e. alone.some (prev ∙ e)) in
    alone.unlinked (link_on o q.0) (record {
      known = is.link q.0 q.1;
      object = ap (λ (t : PageHead). t.object.0) (sym p.2);
      next = q.2 ∙ ap (λ (t : PageHead). t.page.0) (sym p.2);
    }) (q.3 ∙ sym prev)

no_place : (K : Known) (o root : ℕ) (seen : List Page) → IsKnownOf K o root seen → IsClean root seen → (k : ℕ) (x : CheckError) → x.object ≡ o → HasNoPlace K k x → ⊥
no_place K o root seen is clean k x at (HasNoPlace.NoParentNoPrev n r s t p out alone e) =
    no_parent K o root seen is clean n r k s (of_object x (tree_error 8979 n k s.prev.0 0 0) o e at) t p out
no_place K o root seen is clean k x at (HasNoPlace.NoParent n r s t p out linked e) =
    no_parent K o root seen is clean n r k s (of_object x (tree_error 8977 n k 0 0 0) o e at) t p out
no_place K o root seen is clean k x at (HasNoPlace.NoPrev n r s t p parent alone e) =
    no_prev K o root seen is clean n k s (of_object x (tree_error 8978 n k s.prev.0 0 0) o e at) p alone

is_crossed : (K : Known) (o root : ℕ) (seen : List Page) → IsKnownOf K o root seen → IsClean root seen → (k : ℕ) (x : CheckError) → x.object ≡ o → IsCrossed K k x → ⊥
is_crossed K o root seen is clean k x at h =
    let mine = of_object x (tree_error 8936 h.link.object.0 h.link.page.0 k 0 h.head.prev.0) o h.is at in
    let p = link_from K o root seen is k h.link (subst (λ n. IsLink K n k h.link) mine h.leads.link) in
    let q = page_from K o root seen is k h.head (subst (λ n. IsPage K n k h.head) mine h.page) in
    h.differs (ap (λ (t : PageHead). t.prev.0) q.2 ∙ (clean.crossed p.0 q.0 p.1 q.1 (q.3 ∙ sym p.3) ∙ ap (λ (l : Link). l.page.0) (sym p.2)))

-- a page seen of the object is seen of no other
not_other : (K : Known) (o root : ℕ) (seen : List Page) → IsKnownOf K o root seen → (k n w : ℕ) → n ≡ o → (p : Page) → Contains seen p → page_of p ≡ k
    → IsSeenElsewhere K n k w → ⊥
not_other K o root seen is k n w mine p i page h =
    h.another (is.alone p i w h.head (subst (λ m. IsPage K w m h.head) (sym page) h.page) ∙ sym mine)

-- it is seen
not_unseen : (K : Known) (o root : ℕ) (seen : List Page) → IsKnownOf K o root seen → (k : ℕ) (p : Page) → Contains seen p → page_of p ≡ k → IsUnseen K k → ⊥
not_unseen K o root seen is k p i page h = h o (head_on o p) (record { known = is.head p i; object = refl; page = page })

next_elsewhere : (K : Known) (o root : ℕ) (seen : List Page) → IsKnownOf K o root seen → IsClean root seen → (k : ℕ) (x : CheckError) → x.object ≡ o → IsNextElsewhere K k x → ⊥
next_elsewhere K o root seen is clean k x at h =
    let mine = of_object x (tree_error 8982 h.link.object.0 h.link.page.0 k 0 h.owner) o h.is at in
    let p = link_from K o root seen is k h.link (subst (λ n. IsLink K n k h.link) mine h.leads.link) in
    let some : next_of p.0 ≢ 0 = λ none. is.nonzero h.owner h.elsewhere.head (subst (λ m. IsPage K h.owner m h.elsewhere.head) (sym p.3 ∙ none) h.elsewhere.page) in
    let q = clean.next_seen p.0 p.1 some in
    not_other K o root seen is k h.link.object.0 h.owner mine q.0 q.1 (q.2 ∙ p.3) h.elsewhere

next_nowhere : (K : Known) (o root : ℕ) (seen : List Page) → IsKnownOf K o root seen → IsClean root seen → (k : ℕ) (x : CheckError) → x.object ≡ o → IsNextNowhere K k x → ⊥
next_nowhere K o root seen is clean k x at h =
    let mine = of_object x (tree_error 8981 h.link.object.0 h.link.page.0 k 0 0) o h.is at in
    let p = link_from K o root seen is k h.link (subst (λ n. IsLink K n k h.link) mine h.leads.link) in
    let q = clean.next_seen p.0 p.1 (λ none. h.some (sym p.3 ∙ none)) in
    not_unseen K o root seen is k q.0 q.1 (q.2 ∙ p.3) h.unseen

child_of : (K : Known) (o root : ℕ) (seen : List Page) → IsKnownOf K o root seen → IsClean root seen → (k : ℕ) (c : IndexRow) → c.object.0 ≡ o → NamesChild K c k
    → (p : Page) × Contains seen p × (page_of p ≡ k)
child_of K o root seen is clean k c mine h =
    let r = row_from K o root seen is k c (subst (λ n. IsRow K n k c) mine h.row) in clean.child_seen k r.0

child_elsewhere : (K : Known) (o root : ℕ) (seen : List Page) → IsKnownOf K o root seen → IsClean root seen → (k : ℕ) (x : CheckError) → x.object ≡ o → IsChildElsewhere K k x → ⊥
child_elsewhere K o root seen is clean k x at h =
    let mine = of_object x (row_error 8925 h.row k h.owner) o h.is at in
    let p = child_of K o root seen is clean k h.row mine h.names in
    not_other K o root seen is k h.row.object.0 h.owner mine p.0 p.1 p.2 h.elsewhere

child_nowhere : (K : Known) (o root : ℕ) (seen : List Page) → IsKnownOf K o root seen → IsClean root seen → (k : ℕ) (x : CheckError) → x.object ≡ o → IsChildNowhere K k x → ⊥
child_nowhere K o root seen is clean k x at (IsChildNowhere.Linked c l names unseen link e) =
    let p = child_of K o root seen is clean k c (of_object x (row_error 8976 c k 0) o e at) names in not_unseen K o root seen is k p.0 p.1 p.2 unseen
child_nowhere K o root seen is clean k x at (IsChildNowhere.Alone c names unseen alone e) =
    let p = child_of K o root seen is clean k c (of_object x (row_error 8980 c k 0) o e at) names in not_unseen K o root seen is k p.0 p.1 p.2 unseen

stands_not : (K : Known) (o root : ℕ) (seen : List Page) → IsKnownOf K o root seen → AreWellFormed seen → IsClean root seen
    → (k : ℕ) (x : CheckError) → x.object ≡ o → StandsAt K k x → ⊥
stands_not K o root seen is pages clean k x at (StandsAt.RootUnseen h) = root_unseen K o root seen is clean k x at h
stands_not K o root seen is pages clean k x at (StandsAt.TwoParents h) = places_two K o root seen is clean k x at h
stands_not K o root seen is pages clean k x at (StandsAt.WrongLevel h) = wrong_level K o root seen is clean k x at h
stands_not K o root seen is pages clean k x at (StandsAt.WrongFirstKey h) = wrong_first K o root seen is pages clean k x at h
stands_not K o root seen is pages clean k x at (StandsAt.HighKey h) = high_key K o root seen is clean k x at h
stands_not K o root seen is pages clean k x at (StandsAt.WrongPrev h) = wrong_prev K o root seen is clean k x at h
stands_not K o root seen is pages clean k x at (StandsAt.NoPlace h) = no_place K o root seen is clean k x at h
stands_not K o root seen is pages clean k x at (StandsAt.Crossed h) = is_crossed K o root seen is clean k x at h
stands_not K o root seen is pages clean k x at (StandsAt.NextElsewhere h) = next_elsewhere K o root seen is clean k x at h
stands_not K o root seen is pages clean k x at (StandsAt.NextNowhere h) = next_nowhere K o root seen is clean k x at h
stands_not K o root seen is pages clean k x at (StandsAt.ChildElsewhere h) = child_elsewhere K o root seen is clean k x at h
stands_not K o root seen is pages clean k x at (StandsAt.ChildNowhere h) = child_nowhere K o root seen is clean k x at h

pub clean_is_free : (K : Known) (o root : ℕ) (seen : List Page) → IsKnownOf K o root seen → AreWellFormed seen → IsClean root seen → HasNoTreeErrors K o
clean_is_free K o root seen is pages clean x at stands = stands_not K o root seen is pages clean stands.0 x at stands.1
