-- Reading place by place, as a plan does: at each page it goes on or refuses.
use Rattle.std.proofs.Common.{◌≡◌, ℕ, zero, suc, ◌≤◌, List, [], ◌∷◌, length, Option, Some, None, inl, inr, refl, sym, ap, ◌∙◌, subst, arith}
use Rattle.std.proofs.lemmas.Bool.{cases_eq, eq-eqb, ne_eqb}
use Rattle.spec_levels.specs.Levels.{Node, Payload}
use Rattle.spec_levels.specs.Pages.{Page, LeafPage, IndexPage}
use Rattle.spec_ways.specs.Pages.{Pages, ShowsLevel, Shows, asked_below, asked_pages}
use Rattle.law_ways.specs.WayLaws.{ShowsWay}
use Rattle.spec_ways.specs.Ways.{way_pages, Way, child_toward, node_at, through, ending_at, through_child, way_from}
use Rattle.law_ways.proofs.WayReads.{some_is, found_shows}

found_page : {V : Type 0} (p : ℕ) (nodes : List (Node V)) (n : Node V) → node_at p nodes ≡ Some n → n.page ≡ p
found_page p [] n e = absurd (cc)
found_page p (m ∷ ns) n e = elim (cases_eq m.page p) [
  | inl same ↦
      let here : node_at p (m ∷ ns) ≡ Some m = (let f = eq-eqb m.page p same in rw f refl) in
      sym (ap (λ (x : Node _). x.page) (some_is m n (sym here ∙ e))) ∙ same
  | inr other ↦
      let there : node_at p (m ∷ ns) ≡ node_at p ns = (let f = ne_eqb m.page p other in rw f refl) in found_page p ns n (sym there ∙ e)
]

-- what comes of page p, and of what comes behind it
module _ {O : Type 0} (ask : ℕ → O → O) where
  abbrev pub asks : List ℕ → O → O
  asks [] out = out
  asks (p ∷ ps) out = ask p (asks ps out)

  abbrev pub longer : Node ℕ → Way → Way
  longer n way = record { above = n ∷ way.above; leaf = way.leaf }

  abbrev pub by_page : (ℕ → (Way → O) → O) → ℕ → Page → (Way → O) → O
  by_page go k (LeafPage n) next = next (record { above = []; leaf = n })
  by_page go k (IndexPage level n) next = go (child_toward k n.rows) (λ way. next (longer n way))

  -- the way from page p, through at most so many index pages; where there are more it ends with this outcome
  abbrev pub way_asks : O → ℕ → ℕ → Pages → ℕ → (Way → O) → O
  way_asks bad zero k image p next = ask p (by_page (λ q go. bad) k (image p) next)
  way_asks bad (suc m) k image p next = ask p (by_page (way_asks bad m k image) k (image p) next)

  leaf_asks : (bad : ℕ → (Way → O) → O) (k p : ℕ) (o : Option (Node Payload)) (page : Page) (way : Way) (next : Way → O) → ((n : Node Payload) → o ≡ Some n → page ≡ LeafPage n)
      → ((n : Node Payload) → o ≡ Some n → n.page ≡ p) → ending_at o ≡ Some way → ask p (by_page bad k page next) ≡ asks (way_pages way) (next way)
  leaf_asks bad k p None page way next shows at e = absurd (cc)
  leaf_asks bad k p (Some n) page way next shows at e =
      ap (λ x. ask p (by_page bad k x next)) (shows n refl) ∙ ap (λ q. ask q (next (record { above = []; leaf = n }))) (sym (at n refl))
      ∙ ap (λ (w : Way). asks (way_pages w) (next w)) (some_is (record { above = []; leaf = n }) way e)

  index_asks : (go : ℕ → (Way → O) → O) (from : ℕ → Option Way) (k level p : ℕ) (o : Option (Node ℕ)) (page : Page) (way : Way) (next : Way → O)
      → ((n : Node ℕ) → o ≡ Some n → page ≡ IndexPage level n)
      → ((n : Node ℕ) → o ≡ Some n → n.page ≡ p) → ((q : ℕ) (w : Way) (after : Way → O) → from q ≡ Some w → go q after ≡ asks (way_pages w) (after w)) → through_child from k o ≡ Some way
      → ask p (by_page go k page next) ≡ asks (way_pages way) (next way)
  index_asks go from k level p None page way next shows at same e = absurd (cc)
  index_asks go from k level p (Some n) page way next shows at same e =
      ap (λ x. ask p (by_page go k x next)) (shows n refl) ∙ by_rest (from (child_toward k n.rows)) refl e
    where
      by_rest : (o : Option Way) → from (child_toward k n.rows) ≡ o → through n o ≡ Some way → ask p (go (child_toward k n.rows) (λ w. next (longer n w))) ≡ asks (way_pages way) (next way)
      by_rest None is h = absurd (cc)
      by_rest (Some w) is h =
          ap (ask p) (same (child_toward k n.rows) w (λ v. next (longer n v)) is)
          ∙ ap (λ q. ask q (asks (way_pages w) (next (longer n w)))) (sym (at n refl))
          ∙ ap (λ (v : Way). asks (way_pages v) (next v)) (some_is (longer n w) way h)

  -- where the pages show a tree, reading its way asks the pages of the way in order, and goes on with it
  pub way_is_asked : (bad : O) (m k : ℕ) (image : Pages) (above : List (List (Node ℕ))) (leaves : List (Node Payload)) → length above ≤ m → Shows image above leaves
      → (p : ℕ) (way : Way) (next : Way → O) → way_from k above leaves p ≡ Some way → way_asks bad m k image p next ≡ asks (way_pages way) (next way)
  way_is_asked bad zero k image [] leaves long s p way next e =
      leaf_asks (λ q go. bad) k p (node_at p leaves) (image p) way next (λ n is. found_shows LeafPage image p leaves n s is) (λ n is. found_page p leaves n is) e
  way_is_asked bad (suc m) k image [] leaves long s p way next e =
      leaf_asks (way_asks bad m k image) k p (node_at p leaves) (image p) way next (λ n is. found_shows LeafPage image p leaves n s is) (λ n is. found_page p leaves n is) e
  way_is_asked bad zero k image (nodes ∷ more) leaves long s p way next e = absurd (omega (arith, long))
  way_is_asked bad (suc m) k image (nodes ∷ more) leaves long s p way next e =
      index_asks (way_asks bad m k image) (way_from k more leaves) k (suc (length more)) p (node_at p nodes) (image p) way next
      (λ n is. found_shows (IndexPage (suc (length more))) image p nodes n s.0 is) (λ n is. found_page p nodes n is)
      (λ q w after h. way_is_asked bad m k image more leaves (omega (arith, long)) s.1 q w after h) e

-- the pages that are asked are one such outcome
abbrev asked_by : (ℕ → (Way → List ℕ) → List ℕ) → ℕ → Page → (Way → List ℕ) → List ℕ
asked_by go k page next = by_page (λ q out. q ∷ out) go k page next

below_asked : (go : ℕ → (Way → List ℕ) → List ℕ) (asked : ℕ → List ℕ) (k : ℕ) (page : Page) → ((q : ℕ) → asked q ≡ go q (λ way. [])) → asked_below asked k page ≡ asked_by go k page (λ way. [])
below_asked go asked k (LeafPage n) same = refl
below_asked go asked k (IndexPage level n) same = same (child_toward k n.rows)

asked_are : (m k : ℕ) (image : Pages) (p : ℕ) → asked_pages m k image p ≡ way_asks (λ q out. q ∷ out) [] m k image p (λ way. [])
asked_are zero k image p = ap (λ l. p ∷ l) (none (image p))
  where
    none : (page : Page) → [] ≡ asked_by (λ q go. []) k page (λ way. [])
    none (LeafPage n) = refl
    none (IndexPage level n) = refl
asked_are (suc m) k image p =
    ap (λ l. p ∷ l) (below_asked (way_asks (λ q out. q ∷ out) [] m k image) (asked_pages m k image) k (image p) (asked_are m k image))

asks_all : (ps : List ℕ) → asks (λ q out. q ∷ out) ps [] ≡ ps
asks_all [] = refl
asks_all (p ∷ ps) = ap (λ l. p ∷ l) (asks_all ps)

pub pages_asked : (m k : ℕ) (image : Pages) (above : List (List (Node ℕ))) (leaves : List (Node Payload)) → length above ≤ m → Shows image above leaves
    → (p : ℕ) (way : Way) → way_from k above leaves p ≡ Some way → asked_pages m k image p ≡ way_pages way
pages_asked m k image above leaves long s p way e =
    asked_are m k image p ∙ way_is_asked (λ q out. q ∷ out) [] m k image above leaves long s p way (λ w. []) e ∙ asks_all (way_pages way)

-- and each is shown
node_shown : {V : Type 0} (kind : Node V → Page) (image : Pages) (p : ℕ) (nodes : List (Node V)) (n : Node V) → ShowsLevel kind image nodes → node_at p nodes ≡ Some n → image n.page ≡ kind n
node_shown kind image p nodes n s e = ap image (found_page p nodes n e) ∙ found_shows kind image p nodes n s e

pub way_is_shown : (k : ℕ) (image : Pages) (above : List (List (Node ℕ))) (leaves : List (Node Payload)) → Shows image above leaves
    → (p : ℕ) (way : Way) → way_from k above leaves p ≡ Some way → (length way.above ≡ length above) × ShowsWay image way.above way.leaf
way_is_shown k image [] leaves s p way e = by_leaf (node_at p leaves) refl e
  where
    by_leaf : (o : Option (Node Payload)) → node_at p leaves ≡ o → ending_at o ≡ Some way → (length way.above ≡ 0) × ShowsWay image way.above way.leaf
    by_leaf None is e = absurd (cc)
    by_leaf (Some n) is e = subst (λ (w : Way). (length w.above ≡ 0) × ShowsWay image w.above w.leaf) (some_is (record { above = []; leaf = n }) way e) (refl, node_shown LeafPage image p leaves n s is)
way_is_shown k image (nodes ∷ more) leaves s p way e = by_node (λ q w. way_is_shown k image more leaves s.1 q w) (node_at p nodes) refl e
  where
    by_node : ((q : ℕ) (w : Way) → way_from k more leaves q ≡ Some w → (length w.above ≡ length more) × ShowsWay image w.above w.leaf) → (o : Option (Node ℕ)) → node_at p nodes ≡ o
        → through_child (way_from k more leaves) k o ≡ Some way → (length way.above ≡ suc (length more)) × ShowsWay image way.above way.leaf
    by_node go None is e = absurd (cc)
    by_node go (Some n) is e = by_rest (way_from k more leaves (child_toward k n.rows)) refl e
      where
        by_rest : (o : Option Way) → way_from k more leaves (child_toward k n.rows) ≡ o → through n o ≡ Some way → (length way.above ≡ suc (length more)) × ShowsWay image way.above way.leaf
        by_rest None rest e = absurd (cc)
        by_rest (Some w) rest e =
            let h = go (child_toward k n.rows) w rest in
            subst (λ (v : Way). (length v.above ≡ suc (length more)) × ShowsWay image v.above v.leaf) (some_is (record { above = n ∷ w.above; leaf = w.leaf }) way e)
            (ap suc h.0, (node_shown (IndexPage (suc (length more))) image p nodes n s.0 is ∙ ap (λ (m : ℕ). IndexPage (suc m) n) (sym h.0), h.1))
