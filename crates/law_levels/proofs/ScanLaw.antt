-- A scan of a tree meets just its leaves, from left to right.
use Rattle.std.proofs.Common.{◌≡◌, ◌≢◌, ℕ, suc, Some, List, [], ◌∷◌, ◌++◌, length, map, Contains, refl, sym, ap, ◌∙◌, subst, ⊎_elim}
use Rattle.std.proofs.lemmas.List.Elements.{Contains-append_left, Contains-append_right}
use Rattle.spec_check.proofs.Members.{nothing_there, cons_cases, cons_here, cons_there, map_in}
use Rattle.spec_levels.specs.Levels.{Row, Index, Leaf, Tree, AreDistinct, AreLevels, IsLinked, first_key, first_page, rows_of, root_row}
use Rattle.spec_levels.specs.Pages.{Page, page_of, next_of, level_pages, IsTreeOf}
use Rattle.law_levels.specs.Scans.{LeadsDown, AreInTurn}
use Rattle.law_levels.specs.Laws.{ScanIsLeaves}
use Rattle.law_levels.proofs.Build.{same_node, tree_pages_are}

-- pages of distinct numbers
once_in : (xs : List Page) → AreDistinct (map page_of xs) → (p q : Page) → Contains xs p → Contains xs q → page_of p ≡ page_of q → p ≡ q
once_in [] d p q i j e = absurd (nothing_there p i)
once_in (x ∷ xs) d p q i j e =
    let pages = map page_of xs in
    ⊎_elim
    (λ here. ⊎_elim (λ too. sym here ∙ too)
    (λ later. absurd (d.0 (subst (Contains pages) (sym e ∙ sym (ap page_of here)) (map_in page_of xs q later)))) (cons_cases x xs q j))
    (λ there. ⊎_elim (λ too. absurd (d.0 (subst (Contains pages) (e ∙ sym (ap page_of too)) (map_in page_of xs p there))))
    (λ later. once_in xs d.1 p q there later e) (cons_cases x xs q j))
    (cons_cases x xs p i)

-- pages of which each stands once and none is page 0
pub record AreApart (seen : List Page) : Type 0 where
  pub once : (p q : Page) → Contains seen p → Contains seen q → page_of p ≡ page_of q → p ≡ q
  pub nonzero : (p : Page) → Contains seen p → page_of p ≢ 0

pub apart : (root : ℕ) (seen : List Page) (tree : Tree) → IsTreeOf root seen tree → AreApart seen
apart root seen tree t =
    let all = level_pages tree.above tree.leaves in
    let same = tree_pages_are tree.above tree.leaves in record {
      once = λ p q i j e. once_in all (subst AreDistinct (sym same) t.is.distinct) p q ((t.pages p).0 i) ((t.pages q).0 j) e;
      nonzero = λ p i none. t.is.nonzero (subst (λ (ns : List ℕ). Contains ns 0) same (subst (Contains (map page_of all)) none (map_in page_of all p ((t.pages p).0 i))));
    }

-- along the leaves
abbrev AllSeen : List Page → List Leaf → Type 0
AllSeen seen nodes = (n : Leaf) → Contains nodes n → Contains seen (Page.LeafPage n)

turn_to : (seen : List Page) → AreApart seen → (before : ℕ) (nodes : List Leaf) → IsLinked before nodes → AllSeen seen nodes → (pages : List Page)
    → AreInTurn seen (first_page nodes) pages → pages ≡ map Page.LeafPage nodes
turn_to seen apart before [] linked all [] walk = refl
turn_to seen apart before [] linked all (p ∷ pages) walk = absurd (apart.nonzero p walk.0 walk.1)
turn_to seen apart before (n ∷ nodes) linked all [] walk = absurd (apart.nonzero (Page.LeafPage n) (all n (cons_here n nodes)) walk)
turn_to seen apart before (n ∷ nodes) linked all (p ∷ pages) walk =
    let is = apart.once p (Page.LeafPage n) walk.0 (all n (cons_here n nodes)) walk.1 in
    ap (λ q. q ∷ pages) is ∙ ap (λ (qs : List Page). Page.LeafPage n ∷ qs)
    (turn_to seen apart n.page nodes linked.2 (λ m i. all m (cons_there n nodes m i)) pages (subst (λ k. AreInTurn seen k pages) (ap next_of is ∙ linked.1) walk.2))

turn_from : (seen : List Page) (before : ℕ) (nodes : List Leaf) → IsLinked before nodes → AllSeen seen nodes → AreInTurn seen (first_page nodes) (map Page.LeafPage nodes)
turn_from seen before [] linked all = refl
turn_from seen before (n ∷ nodes) linked all =
    (all n (cons_here n nodes), refl, subst (λ k. AreInTurn seen k (map Page.LeafPage nodes)) (sym linked.1) (turn_from seen n.page nodes linked.2 (λ m i. all m (cons_there n nodes m i))))

-- down to the leftmost leaf
record Leftmost (seen : List Page) (leaves : List Leaf) (page : ℕ) : Type 0 where
  leaf : Leaf
  others : List Leaf
  is : leaves ≡ leaf ∷ others
  leads : LeadsDown seen leaf page
  only : (other : Leaf) → LeadsDown seen other page → other ≡ leaf

pub same_leaf : (n m : Leaf) → Page.LeafPage n ≡ Page.LeafPage m → n ≡ m
same_leaf n m e = cc

pub not_both : (level : ℕ) (n : Index) (m : Leaf) → Page.IndexPage level n ≡ Page.LeafPage m → ⊥
not_both level n m e = cc

pub first_row : (rows : List (Row ℕ)) (key : ℕ) → first_key rows ≡ Some key → (row : Row ℕ) × (rest : List (Row ℕ)) × (rows ≡ row ∷ rest)
first_row [] key e = absurd (cc)
first_row (row ∷ rows) key e = (row, rows, refl)

same_row : (a b : Row ℕ) (xs ys : List (Row ℕ)) → a ∷ xs ≡ b ∷ ys → a ≡ b
same_row a b xs ys e = cc

only_leaf : (seen : List Page) → AreApart seen → (m : Leaf) (page : ℕ) → Contains seen (Page.LeafPage m) → page ≡ m.page → (other : Leaf) → LeadsDown seen other page
    → other ≡ m
only_leaf seen apart m page on at other (LeadsDown.Stays k i e) = same_leaf other m (apart.once (Page.LeafPage other) (Page.LeafPage m) i on (e ∙ at))
only_leaf seen apart m page on at other (LeadsDown.Descends k level n row rows i e s d) =
    absurd (not_both level n m (apart.once (Page.IndexPage level n) (Page.LeafPage m) i on (e ∙ at)))

only_below : (seen : List Page) → AreApart seen → (level : ℕ) (n : Index) (page : ℕ) → Contains seen (Page.IndexPage level n) → page ≡ n.page
    → (row : Row ℕ) (rest : List (Row ℕ)) → n.rows ≡ row ∷ rest → (other : Leaf) → LeadsDown seen other page → LeadsDown seen other row.value
only_below seen apart level n page on at row rest is other (LeadsDown.Stays k i e) =
    absurd (not_both level n other (apart.once (Page.IndexPage level n) (Page.LeafPage other) on i (sym at ∙ sym e)))
only_below seen apart level n page on at row rest is other (LeadsDown.Descends k l m r rows i e s d) =
    let same = same_node l level m n (apart.once (Page.IndexPage l m) (Page.IndexPage level n) i on (e ∙ at)) in
    subst (λ (x : Row ℕ). LeadsDown seen other x.value) (same_row r row rows rest (sym s ∙ (ap (λ (x : Index). x.rows) same ∙ is))) d

down : (seen : List Page) → AreApart seen → (row : Row ℕ) (rest : List (Row ℕ)) (above : List (List Index)) (leaves : List Leaf) → AreLevels (row ∷ rest) above leaves
    → ((p : Page) → Contains (level_pages above leaves) p → Contains seen p) → Leftmost seen leaves row.value
down seen apart row rest [] [] levels all = absurd levels.0
down seen apart row rest [] (m ∷ leaves) levels all =
    let on = all (Page.LeafPage m) (map_in Page.LeafPage (m ∷ leaves) m (cons_here m leaves)) in
    let at = levels.0.0.page in record {
      leaf = m;
      others = leaves;
      is = refl;
      leads = LeadsDown.Stays row.value on (sym at);
      only = only_leaf seen apart m row.value on at;
    }
down seen apart row rest ([] ∷ more) leaves levels all = absurd levels.0
down seen apart row rest ((n ∷ nodes) ∷ more) leaves levels all =
    let level = suc (length more) in
    let here = map (Page.IndexPage level) (n ∷ nodes) in
    let under = levels.0.0 in
    let at = under.under.page in
    let on = all (Page.IndexPage level n) (Contains-append_left here (level_pages more leaves) (Page.IndexPage level n)
    (map_in (Page.IndexPage level) (n ∷ nodes) n (cons_here n nodes))) in
    let f = first_row n.rows row.key under.first in
    let r = down seen apart f.0 (f.1 ++ rows_of nodes) more leaves (subst (λ (rs : List (Row ℕ)). AreLevels (rs ++ rows_of nodes) more leaves) f.2 levels.2)
    (λ p i. all p (Contains-append_right here (level_pages more leaves) p i)) in record {
      leaf = r.leaf;
      others = r.others;
      is = r.is;
      leads = LeadsDown.Descends row.value level n f.0 f.1 on (sym at) f.2 r.leads;
      only = λ other leads. r.only other (only_below seen apart level n row.value on at f.0 f.1 f.2 other leads);
    }

-- the leaves are linked
leaves_linked : (rows : List (Row ℕ)) (above : List (List Index)) (leaves : List Leaf) → AreLevels rows above leaves → IsLinked 0 leaves
leaves_linked rows [] leaves levels = levels.1
leaves_linked rows (nodes ∷ more) leaves levels = leaves_linked (rows_of nodes) more leaves levels.2

leaf_in : (above : List (List Index)) (leaves : List Leaf) (n : Leaf) → Contains leaves n → Contains (level_pages above leaves) (Page.LeafPage n)
leaf_in [] leaves n i = map_in Page.LeafPage leaves n i
leaf_in (nodes ∷ more) leaves n i =
    Contains-append_right (map (Page.IndexPage (suc (length more))) nodes) (level_pages more leaves) (Page.LeafPage n) (leaf_in more leaves n i)

pub scan_is_leaves : ScanIsLeaves
scan_is_leaves root seen tree pages t =
    let parts = apart root seen tree t in
    let left = down seen parts (root_row root) [] tree.above tree.leaves t.is.levels (λ p i. (t.pages p).1 i) in
    let linked = leaves_linked (root_row root ∷ []) tree.above tree.leaves t.is.levels in
    let all : (n : Leaf) → Contains tree.leaves n → Contains seen (Page.LeafPage n) = λ n i. (t.pages (Page.LeafPage n)).1 (leaf_in tree.above tree.leaves n i) in
    let start : first_page tree.leaves ≡ left.leaf.page = ap (λ (ns : List Leaf). first_page ns) left.is in (
      λ scan.
          let first = left.only scan.leftmost scan.down in
          turn_to seen parts 0 tree.leaves linked all pages (subst (λ k. AreInTurn seen k pages) (ap (λ (n : Leaf). n.page) first ∙ sym start) scan.along),
      λ are. record {
        leftmost = left.leaf;
        down = left.leads;
        along = subst (λ k. AreInTurn seen k pages) start (subst (AreInTurn seen (first_page tree.leaves)) (sym are) (turn_from seen 0 tree.leaves linked all));
      },
    )
