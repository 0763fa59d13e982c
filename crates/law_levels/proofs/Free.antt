-- Where the pages seen are a tree, no error stands.
use Rattle.std.proofs.Common.{◌≡◌, ◌≢◌, ℕ, suc, ◌+◌, ◌<◌, Some, List, [], ◌∷◌, ◌++◌, length, map, Contains, sym, ap, ◌∙◌, subst, inl, inr, ⊎_elim, arith}
use Rattle.std.proofs.lemmas.List.{map-append}
use Rattle.std.proofs.lemmas.List.Elements.{Contains-append_left, Contains-append_right, Contains-append_cases}
use Rattle.spec_check.proofs.Members.{nothing_there, cons_cases, cons_there, map_from, map_in}
use Rattle.spec_levels.specs.Levels.{Row, Index, Leaf, Tree, AreDistinct, rows_of, pages_of, first_key, root_row, IsUnder, IsIndexUnder, AreLevels}
use Rattle.spec_levels.specs.Pages.{Page, page_of, prev_of, next_of, level_of, keys_on, level_pages, IsTreeOf}
use Rattle.law_levels.specs.Known.{AreWellFormed, Parent, last_in}
use Rattle.law_levels.proofs.Clean.{IsClean, High, Before, FirstFits}
use Rattle.law_levels.proofs.Lists.{part_in, flat_in}
use Rattle.law_levels.proofs.Fit.{AreSeen}
use Rattle.law_levels.proofs.Distinct.{values_of, under_pages}
use Rattle.law_levels.proofs.Build.{same_node, level_step, tree_pages_are}
use Rattle.law_levels.proofs.Close.{first_distinct, level_low}
use Rattle.spec_levels.specs.Levels.{IsLinked}
use Rattle.law_levels.proofs.Rules.{Under, Beside, place_once, apart, value_at, under, named, beside, high_row, below_is, last_below, earlier, before_first, child_fits, IsAll, AreAll}

-- a row of a node, by what stands before and after it
pub record Spot (m : Index) : Type 0 where
  pub front : List (Row ℕ)
  pub row : Row ℕ
  pub back : List (Row ℕ)
  pub is : m.rows ≡ front ++ row ∷ back

spot_value : (m : Index) (s : Spot m) → Contains (values_of m.rows) s.row.value
spot_value m s = subst (λ (rs : List (Row ℕ)). Contains (values_of rs) s.row.value) (sym s.is) (value_at s.front s.row s.back)

same_spot : (m : Index) (s t : Spot m) → AreDistinct (values_of m.rows) → s.row.value ≡ t.row.value → length s.front ≡ length t.front
same_spot m s t d same =
    place_once s.front s.row s.back t.front t.row t.back (sym s.is ∙ t.is) (subst (λ (rs : List (Row ℕ)). AreDistinct (values_of rs)) s.is d) same

abbrev SamePlace : (m n : Index) → Spot m → Spot n → Type 0
SamePlace m n s t = (m.page ≡ n.page) × (length s.front ≡ length t.front)

abbrev move_spot : (m n : Index) → m ≡ n → Spot n → Spot m
move_spot m n e s = record { front = s.front; row = s.row; back = s.back; is = ap (λ (x : Index). x.rows) e ∙ s.is }

in_rows : (nodes : List Index) (m : Index) (s : Spot m) → Contains nodes m → Contains (values_of (rows_of nodes)) s.row.value
in_rows nodes m s i =
    map_in (λ (r : Row ℕ). r.value) (rows_of nodes) s.row (flat_in (λ (x : Index). x.rows) nodes m s.row i (part_in m.rows s.front s.row s.back s.is))

-- on a level whose rows name distinct pages
rows_once : (nodes : List Index) → AreDistinct (values_of (rows_of nodes)) → (m n : Index) → Contains nodes m → Contains nodes n → (s : Spot m) (t : Spot n)
    → s.row.value ≡ t.row.value → SamePlace m n s t
rows_once [] d m n i j s t same = absurd (nothing_there m i)
rows_once (x ∷ nodes) d m n i j s t same =
    let parts = subst AreDistinct (map-append (λ (r : Row ℕ). r.value) x.rows (rows_of nodes)) d in
    let two = first_distinct (values_of x.rows) (values_of (rows_of nodes)) parts in
    let clash = apart (values_of x.rows) (values_of (rows_of nodes)) parts in
    ⊎_elim
    (λ here. ⊎_elim
    (λ too. (ap (λ (y : Index). y.page) (sym here ∙ too), same_spot x (move_spot x m here s) (move_spot x n too t) two.0 same))
    (λ later. absurd (clash s.row.value (spot_value x (move_spot x m here s)) (subst (Contains (values_of (rows_of nodes))) (sym same) (in_rows nodes n t later))))
    (cons_cases x nodes n j))
    (λ there. ⊎_elim
    (λ here. absurd (clash t.row.value (spot_value x (move_spot x n here t)) (subst (Contains (values_of (rows_of nodes))) same (in_rows nodes m s there))))
    (λ later. rows_once nodes two.1 m n there later s t same)
    (cons_cases x nodes n j))
    (cons_cases x nodes m i)

-- the rows above levels of distinct pages name distinct pages
named_distinct : (rows : List (Row ℕ)) (above : List (List Index)) (leaves : List Leaf) → AreLevels rows above leaves → AreDistinct (map page_of (level_pages above leaves))
    → AreDistinct (values_of rows)
named_distinct rows [] leaves levels d =
    subst AreDistinct (tree_pages_are [] leaves ∙ sym (under_pages IsUnder (λ r end m is. is.page) rows leaves levels.0)) d
named_distinct rows (nodes ∷ more) leaves levels d =
    let two = first_distinct (pages_of nodes) (map page_of (level_pages more leaves)) (subst AreDistinct (level_step nodes more leaves) d) in
    subst AreDistinct (sym (under_pages IsIndexUnder (λ r end m is. is.under.page) rows nodes levels.0)) two.0

one_place : (rows : List (Row ℕ)) (above : List (List Index)) (leaves : List Leaf) → AreLevels rows above leaves → AreDistinct (map page_of (level_pages above leaves))
    → (l : ℕ) (m n : Index) → Contains (level_pages above leaves) (Page.IndexPage l m) → Contains (level_pages above leaves) (Page.IndexPage l n) → (s : Spot m) (t : Spot n)
    → s.row.value ≡ t.row.value → SamePlace m n s t
one_place rows [] leaves levels d l m n i j s t same = let no = map_from Page.LeafPage leaves (Page.IndexPage l m) i in let e = no.2 in absurd (cc)
one_place rows (nodes ∷ more) leaves levels d l m n i j s t same =
    let level = suc (length more) in
    let at = map (Page.IndexPage level) nodes in
    let rest = level_pages more leaves in
    let two = first_distinct (pages_of nodes) (map page_of rest) (subst AreDistinct (level_step nodes more leaves) d) in
    ⊎_elim
    (λ here. let x = map_from (Page.IndexPage level) nodes (Page.IndexPage l m) here in
    let deep : level ≡ l = ap level_of x.2 in
    ⊎_elim
    (λ too. let y = map_from (Page.IndexPage level) nodes (Page.IndexPage l n) too in
    rows_once nodes (named_distinct (rows_of nodes) more leaves levels.2 two.1) m n
    (subst (Contains nodes) (same_node level l x.0 m x.2) x.1) (subst (Contains nodes) (same_node level l y.0 n y.2) y.1) s t same)
    (λ below. let low = level_low more leaves (Page.IndexPage l n) below in absurd (omega (arith, low, deep)))
    (Contains-append_cases at rest (Page.IndexPage l n) j))
    (λ below. ⊎_elim
    (λ here. let y = map_from (Page.IndexPage level) nodes (Page.IndexPage l n) here in
    let deep : level ≡ l = ap level_of y.2 in
    let low = level_low more leaves (Page.IndexPage l m) below in absurd (omega (arith, low, deep)))
    (λ too. one_place (rows_of nodes) more leaves levels.2 two.1 l m n below too s t same)
    (Contains-append_cases at rest (Page.IndexPage l n) j))
    (Contains-append_cases at rest (Page.IndexPage l m) i)

-- what a page's parent says of it, on the levels of a tree
record Held (seen : List Page) (k : ℕ) (a : Parent seen k) (p : Page) : Type 0 where
  depth : level_of p + 1 ≡ a.level
  first : FirstFits a.row.key p
  high : (key w : ℕ) → last_in (keys_on p) ≡ Some key → High seen a.node a.back w → key < w
  prev : (w : ℕ) → Before seen a.node a.front w → prev_of p ≡ w

held_under : (seen : List Page) → AreWellFormed seen → (leaves : List Leaf) (k : ℕ) (a : Parent seen k) (u : Under seen leaves k a) → Held seen k a u.p
held_under seen pages leaves k a u =
    let level = suc (length u.at.more) in
    let f = u.round.front in
    let b = u.round.back in
    let linked = subst (IsLinked 0) u.round.is u.at.levels.1 in
    let on : (n : Index) → Contains (f ++ a.node ∷ b) n → Contains seen (Page.IndexPage level n) = λ n i.
    u.at.all (Page.IndexPage level n) (Contains-append_left (map (Page.IndexPage level) u.at.nodes) (level_pages u.at.more leaves) (Page.IndexPage level n)
    (map_in (Page.IndexPage level) u.at.nodes n (subst (λ ns. Contains ns n) (sym u.round.is) i))) in
    let before : AreSeen seen level f = λ n i. on n (Contains-append_left f (a.node ∷ b) n i) in
    let after : (n : Index) → Contains b n → Contains seen (Page.IndexPage level n) = λ n i. on n (Contains-append_right f (a.node ∷ b) n (cons_there a.node b n i)) in
    record {
      depth = u.depth;
      first = u.fits.first;
      high = λ key w last h. below_is key w (first_key (a.back ++ rows_of b)) (high_row seen pages level a.node f b a.back linked after w h)
          (last_below a.row.key (first_key (a.back ++ rows_of b)) (keys_on u.p) u.fits.keys key last);
      prev = λ w h. u.fits.prev ∙ before_first seen pages level a.node f before (earlier seen pages level 0 0 f a.node b linked before) a.front w h;
    }

held : (seen : List Page) → AreWellFormed seen → (rows : List (Row ℕ)) (above : List (List Index)) (leaves : List Leaf) → AreLevels rows above leaves → IsAll seen above leaves
    → AreAll seen above leaves → (p : Page) → Contains seen p → (a : Parent seen (page_of p)) → Held seen (page_of p) a p
held seen pages rows above leaves levels on all p i a =
    let u = under seen rows above leaves levels on all (page_of p) a in
    let same = pages.once u.p p u.fits.on i (u.fits.page ∙ a.names) in
    subst (λ q. Held seen (page_of p) a q) same (held_under seen pages leaves (page_of p) a u)

parent_spot : (seen : List Page) (k : ℕ) (a : Parent seen k) → Spot a.node
parent_spot seen k a = record { front = a.front; row = a.row; back = a.back; is = a.rows }

parents_same : (seen : List Page) → AreWellFormed seen → (rows : List (Row ℕ)) (above : List (List Index)) (leaves : List Leaf) → AreLevels rows above leaves → IsAll seen above leaves
    → AreAll seen above leaves → AreDistinct (map page_of (level_pages above leaves)) → (k : ℕ) (a b : Parent seen k) → (a.node.page ≡ b.node.page) × (length a.front ≡ length b.front)
parents_same seen pages rows above leaves levels on all d k a b =
    let u = under seen rows above leaves levels on all k a in
    let v = under seen rows above leaves levels on all k b in
    let same = pages.once u.p v.p u.fits.on v.fits.on (u.fits.page ∙ (a.names ∙ (sym b.names ∙ sym v.fits.page))) in
    let depth = ap level_of same in
    let da = u.depth in
    let db = v.depth in
    let level : b.level ≡ a.level = omega (arith, depth, da, db) in
    one_place rows above leaves levels d a.level a.node b.node (all (Page.IndexPage a.level a.node) a.on)
    (subst (λ l. Contains (level_pages above leaves) (Page.IndexPage l b.node)) level (all (Page.IndexPage b.level b.node) b.on))
    (record { front = a.front; row = a.row; back = a.back; is = a.rows }) (record { front = b.front; row = b.row; back = b.back; is = b.rows }) (a.names ∙ sym b.names)

-- where the pages seen are a tree, no error stands
pub tree_is_clean : (root : ℕ) (seen : List Page) → AreWellFormed seen → (tree : Tree) → IsTreeOf root seen tree → IsClean root seen
tree_is_clean root seen pages tree of =
    let above = tree.above in
    let leaves = tree.leaves in
    let rows = root_row root ∷ [] in
    let levels = of.is.levels in
    let on : IsAll seen above leaves = λ p. (of.pages p).1 in
    let all : AreAll seen above leaves = λ p. (of.pages p).0 in
    let d = subst AreDistinct (sym (tree_pages_are above leaves)) of.is.distinct in
    let top = child_fits seen [] (root_row root) [] above leaves levels on in
    let is_top : (p : Page) → Contains seen p → page_of p ≡ root → top.0 ≡ p = λ p i at. pages.once top.0 p top.1.on i (top.1.page ∙ sym at) in
    let near : (p : Page) → Contains seen p → Beside (level_pages above leaves) p = λ p i. beside rows above leaves levels p (all p i) in
    record {
      root_seen = (top.0, top.1.on, top.1.page);
      root_prev = λ p i at. subst (λ q. prev_of q ≡ 0) (is_top p i at) top.1.prev;
      root_first = λ p i at. subst (FirstFits 0) (is_top p i at) top.1.first;
      child_seen = λ k a. let u = under seen rows above leaves levels on all k a in (u.p, u.fits.on, u.fits.page ∙ a.names);
      next_seen = λ p i some. let q = (near p i).next some in (q.0, on q.0 q.1, q.2);
      one_parent = parents_same seen pages rows above leaves levels on all d;
      root_free = λ a. let u = under seen rows above leaves levels on all root a in
          let same = is_top u.p u.fits.on (u.fits.page ∙ a.names) in
          let deep : level_of u.p ≡ length above = sym (ap level_of same) ∙ top.1.at in
          let depth = u.depth in
          let low = level_low above leaves (Page.IndexPage a.level a.node) (all (Page.IndexPage a.level a.node) a.on) in
          omega (arith, deep, depth, low);
      level = λ p i a. (held seen pages rows above leaves levels on all p i a).depth;
      first = λ p i a. (held seen pages rows above leaves levels on all p i a).first;
      high = λ p i a. (held seen pages rows above leaves levels on all p i a).high;
      prev = λ p i a. (held seen pages rows above leaves levels on all p i a).prev;
      parent = λ p i. ⊎_elim (λ h. ⊎_elim (λ e. inl (sym e)) (λ none. absurd (nothing_there (page_of p) none)) (cons_cases root [] (page_of p) h)) (λ a. inr a)
          (named seen rows above leaves levels on p (all p i));
      linked = λ p i some. let q = (near p i).prev some in (q.0, on q.0 q.1, q.3, q.2);
      crossed = λ p q i j at. let some : next_of p ≢ 0 = λ none. pages.nonzero q j (at ∙ none) in
          let m = (near p i).next some in
          let same = pages.once m.0 q (on m.0 m.1) j (m.2 ∙ sym at) in
          subst (λ x. prev_of x ≡ page_of p) same m.3;
    }
