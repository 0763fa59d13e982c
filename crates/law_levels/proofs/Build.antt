-- Where no error stands, the pages seen are a tree: its levels, from the root's downwards.
use Rattle.std.proofs.Common.{◌≡◌, ◌⊎◌, ℕ, zero, suc, ◌≤◌, None, List, [], ◌∷◌, ◌++◌, length, map, Contains, refl, sym, ap, ◌∙◌, subst, ⊎_elim, arith}
use Rattle.std.specs.List.{flat_map}
use Rattle.std.proofs.lemmas.List.{append_assoc, map-append}
use Rattle.std.proofs.lemmas.List.Elements.{Contains-append_left, Contains-append_right, Contains-append_cases}
use Rattle.spec_check.proofs.Members.{map_from, map_in}
use Rattle.spec_levels.specs.Levels.{Row, Node, Index, Leaf, AreDistinct, rows_of, pages_of, AreUnder, IsUnder, IsIndexUnder}
use Rattle.spec_levels.specs.Pages.{Page, page_of, level_of, level_pages}
use Rattle.law_levels.specs.Known.{AreWellFormed}
use Rattle.law_levels.proofs.Clean.{IsClean}
use Rattle.law_levels.proofs.Lists.{distinct_append, part_in, flat_in}
use Rattle.law_levels.proofs.Fit.{AllFit, AreSeen, IsChained, level_fits, start_of}
use Rattle.law_levels.proofs.Found.{Views, leaf_views, index_views, AllOn, find, chain, is_leaf, is_index}
use Rattle.law_levels.proofs.Distinct.{values_of, under_pages, values_distinct}

abbrev pub AreChained : List (Row ℕ) → List (List Index) → List Leaf → Type 0
AreChained rows [] leaves = AreUnder IsUnder rows leaves × IsChained 0 leaves
AreChained rows (nodes ∷ more) leaves = AreUnder IsIndexUnder rows nodes × IsChained 0 nodes × AreChained (rows_of nodes) more leaves

-- each page seen at the level is named by a row
abbrev pub AreNamed : List Page → ℕ → List (Row ℕ) → Type 0
AreNamed seen level rows = (p : Page) → Contains seen p → level_of p ≡ level → Contains (values_of rows) (page_of p)

pub record Built (seen : List Page) (level : ℕ) (rows : List (Row ℕ)) : Type 0 where
  pub above : List (List Index)
  pub leaves : List Leaf
  pub chained : AreChained rows above leaves
  pub height : length above ≡ level
  pub sound : (p : Page) → Contains (level_pages above leaves) p → Contains seen p × (level_of p ≤ level)
  pub complete : (p : Page) → Contains seen p → level_of p ≤ level → Contains (level_pages above leaves) p
  pub distinct : AreDistinct (map page_of (level_pages above leaves))

-- a page of the level is one of the nodes under the rows
node_in : {V : Type 0} (seen : List Page) (level : ℕ) (at : Node V → Page) → AreWellFormed seen → Views seen level at → (rows : List (Row ℕ)) (nodes : List (Node V))
    → values_of rows ≡ pages_of nodes → AllOn seen at nodes → AreNamed seen level rows → (p : Page) → Contains seen p → level_of p ≡ level
    → (n : Node V) × Contains nodes n × (at n ≡ p)
node_in {V = V} seen level at pages views rows nodes same on named p i is =
    let there = subst (λ ks. Contains ks (page_of p)) same (named p i is) in
    let n = map_from (λ (m : Node V). m.page) nodes (page_of p) there in
    (n.0, n.1, pages.once (at n.0) p (on n.0 n.1) i (views.page n.0 ∙ n.2))

leaf_pages : (leaves : List Leaf) → map page_of (map Page.LeafPage leaves) ≡ pages_of leaves
leaf_pages [] = refl
leaf_pages (leaf ∷ leaves) = ap (λ (ks : List ℕ). leaf.page ∷ ks) (leaf_pages leaves)

index_pages : (level : ℕ) (nodes : List Index) → map page_of (map (Page.IndexPage level) nodes) ≡ pages_of nodes
index_pages level [] = refl
index_pages level (node ∷ nodes) = ap (λ (ks : List ℕ). node.page ∷ ks) (index_pages level nodes)

pub level_step : (nodes : List Index) (more : List (List Index)) (leaves : List Leaf)
    → map page_of (level_pages (nodes ∷ more) leaves) ≡ pages_of nodes ++ map page_of (level_pages more leaves)
level_step nodes more leaves =
    map-append page_of (map (Page.IndexPage (suc (length more))) nodes) (level_pages more leaves)
    ∙ ap (λ ks. ks ++ map page_of (level_pages more leaves)) (index_pages (suc (length more)) nodes)

pub tree_pages_are : (above : List (List Index)) (leaves : List Leaf) → map page_of (level_pages above leaves) ≡ flat_map pages_of above ++ pages_of leaves
tree_pages_are [] leaves = leaf_pages leaves
tree_pages_are (nodes ∷ more) leaves =
    level_step nodes more leaves ∙ (ap (λ ks. pages_of nodes ++ ks) (tree_pages_are more leaves)
    ∙ sym (append_assoc (pages_of nodes) (flat_map pages_of more) (pages_of leaves)))

-- the leaves
build_leaves : (seen : List Page) → AreWellFormed seen → (root : ℕ) → IsClean root seen → (rows : List (Row ℕ)) → AllFit seen 0 0 None rows
    → AreDistinct (values_of rows) → AreNamed seen 0 rows → Built seen 0 rows
build_leaves seen pages root clean rows fits distinct named =
    let views = leaf_views seen pages in
    let f = find seen 0 Page.LeafPage IsUnder views (is_leaf seen) 0 rows fits in
    let same = under_pages IsUnder (λ row end n is. is.page) rows f.nodes f.under in
    record {
      above = [];
      leaves = f.nodes;
      chained = (f.under, chain root seen 0 Page.LeafPage pages clean views 0 f.nodes f.on f.prevs);
      height = refl;
      sound = λ p i. let n = map_from Page.LeafPage f.nodes p i in
          (subst (Contains seen) n.2 (f.on n.0 n.1), subst (λ q. level_of q ≤ 0) n.2 (omega arith));
      complete = λ p i low. let n = node_in seen 0 Page.LeafPage pages views rows f.nodes same f.on named p i (omega (arith, low)) in
          subst (Contains (map Page.LeafPage f.nodes)) n.2 (map_in Page.LeafPage f.nodes n.0 n.1);
      distinct = subst AreDistinct (same ∙ sym (leaf_pages f.nodes)) distinct;
    }

abbrev node_of : Index → Page → Index
node_of other (Page.LeafPage n) = other
node_of other (Page.IndexPage l n) = n

pub same_node : (l k : ℕ) (n m : Index) → Page.IndexPage l n ≡ Page.IndexPage k m → n ≡ m
same_node l k n m e = ap (node_of n) e

-- the level below a level that has all its pages has all of its pages
named_below : (seen : List Page) → AreWellFormed seen → (root top : ℕ) → IsClean root seen → ((p : Page) → Contains seen p → page_of p ≡ root → level_of p ≡ top)
    → (level : ℕ) (nodes : List Index) → suc level ≤ top
    → ((p : Page) → Contains seen p → level_of p ≡ suc level → (n : Index) × Contains nodes n × (Page.IndexPage (suc level) n ≡ p))
    → AreNamed seen level (rows_of nodes)
named_below seen pages root top clean tops level nodes low all p i is =
    ⊎_elim (λ at_root. let high = tops p i at_root in absurd (omega (arith, high, is, low)))
    (λ a. let deep = clean.level p i a in
    let n = all (Page.IndexPage a.level a.node) a.on (omega (arith, deep, is)) in
    let node : n.0 ≡ a.node = same_node (suc level) a.level n.0 a.node n.2 in
    let row = flat_in (λ (m : Index). m.rows) nodes a.node a.row (subst (Contains nodes) node n.1) (part_in a.node.rows a.front a.row a.back a.rows) in
    subst (Contains (values_of (rows_of nodes))) a.names (map_in (λ (r : Row ℕ). r.value) (rows_of nodes) a.row row))
    (clean.parent p i)

disjoint : (seen : List Page) → AreWellFormed seen → (level : ℕ) (nodes : List Index) (rest : List Page) → AreSeen seen (suc level) nodes
    → ((p : Page) → Contains rest p → Contains seen p × (level_of p ≤ level)) → (k : ℕ) → Contains (pages_of nodes) k → Contains (map page_of rest) k → ⊥
disjoint seen pages level nodes rest are sound k here there =
    let n = map_from (λ (m : Index). m.page) nodes k here in
    let p = map_from page_of rest k there in
    let on = sound p.0 p.1 in
    let same = pages.once (Page.IndexPage (suc level) n.0) p.0 (are n.0 n.1) on.0 (n.2 ∙ sym p.2) in
    let deep : suc level ≡ level_of p.0 = ap level_of same in omega (arith, deep, on.1)

abbrev index_at : ℕ → List Index → List Page
index_at level nodes = map (Page.IndexPage level) nodes

-- a level over the levels below it
build_level : (seen : List Page) → AreWellFormed seen → (level : ℕ) (rows : List (Row ℕ)) (nodes : List Index) → AreUnder IsIndexUnder rows nodes → IsChained 0 nodes
    → AreSeen seen (suc level) nodes → ((p : Page) → Contains seen p → level_of p ≡ suc level → (n : Index) × Contains nodes n × (Page.IndexPage (suc level) n ≡ p))
    → AreDistinct (pages_of nodes) → Built seen level (rows_of nodes) → Built seen (suc level) rows
build_level seen pages level rows nodes under chained are all distinct below =
    let height : suc (length below.above) ≡ suc level = ap (λ n. suc n) below.height in
    let levels : index_at (suc level) nodes ++ level_pages below.above below.leaves ≡ index_at (suc (length below.above)) nodes ++ level_pages below.above below.leaves =
    ap (λ n. index_at n nodes ++ level_pages below.above below.leaves) (sym height) in
    record {
      above = nodes ∷ below.above;
      leaves = below.leaves;
      chained = (under, chained, below.chained);
      height = height;
      sound = λ p i. ⊎_elim
          (λ here. let n = map_from (Page.IndexPage (suc level)) nodes p here in
          (subst (Contains seen) n.2 (are n.0 n.1), subst (λ q. level_of q ≤ suc level) n.2 (omega arith)))
          (λ there. let s = below.sound p there in (s.0, omega (arith, s.1)))
          (Contains-append_cases (index_at (suc level) nodes) (level_pages below.above below.leaves) p (subst (λ ps. Contains ps p) (sym levels) i));
      complete = λ p i low. subst (λ ps. Contains ps p) levels
          (⊎_elim (λ deep. Contains-append_right (index_at (suc level) nodes) (level_pages below.above below.leaves) p (below.complete p i deep))
          (λ here. let n = all p i here in
          Contains-append_left (index_at (suc level) nodes) (level_pages below.above below.leaves) p
          (subst (Contains (index_at (suc level) nodes)) n.2 (map_in (Page.IndexPage (suc level)) nodes n.0 n.1)))
          (le_cases (level_of p) level low));
      distinct = subst AreDistinct (sym (level_step nodes below.above below.leaves))
          (distinct_append (pages_of nodes) (map page_of (level_pages below.above below.leaves)) distinct below.distinct
          (disjoint seen pages level nodes (level_pages below.above below.leaves) are below.sound));
    }
  where
    le_cases : (a b : ℕ) → a ≤ suc b → (a ≤ b) ⊎ (a ≡ suc b)
    le_cases a b h = grind arith

pub build : (seen : List Page) → AreWellFormed seen → (root top : ℕ) → IsClean root seen → ((p : Page) → Contains seen p → page_of p ≡ root → level_of p ≡ top)
    → (level : ℕ) (rows : List (Row ℕ)) → level ≤ top → AllFit seen level 0 None rows → AreDistinct (values_of rows) → AreNamed seen level rows → Built seen level rows
build seen pages root top clean tops zero rows low fits distinct named = build_leaves seen pages root clean rows fits distinct named
build seen pages root top clean tops (suc level) rows low fits distinct named =
    let views = index_views seen level in
    let f = find seen (suc level) (Page.IndexPage (suc level)) IsIndexUnder views (is_index seen (suc level)) 0 rows fits in
    let same = under_pages IsIndexUnder (λ row end n is. is.under.page) rows f.nodes f.under in
    let chained = chain root seen (suc level) (Page.IndexPage (suc level)) pages clean views 0 f.nodes f.on f.prevs in
    let apart : AreDistinct (pages_of f.nodes) = subst AreDistinct same distinct in
    let all : (p : Page) → Contains seen p → level_of p ≡ suc level → (n : Index) × Contains f.nodes n × (Page.IndexPage (suc level) n ≡ p) =
    node_in seen (suc level) (Page.IndexPage (suc level)) pages views rows f.nodes same f.on named in
    build_level seen pages level rows f.nodes f.under chained f.on all apart
    (build seen pages root top clean tops level (rows_of f.nodes) (omega (arith, low))
    (level_fits root seen pages clean level 0 0 f.nodes f.on chained (start_of seen f.nodes chained))
    (values_distinct root seen clean (suc level) f.nodes f.on apart)
    (named_below seen pages root top clean tops level f.nodes low all))
