-- Pages are those of one tree at most.
use Rattle.std.proofs.Common.{◌≡◌, ℕ, suc, Option, List, [], ◌∷◌, ◌++◌, length, map, Contains, refl, sym, ap, ◌∙◌, subst}
use Rattle.std.proofs.lemmas.List.Elements.{Contains-append_left, Contains-append_right}
use Rattle.spec_check.proofs.Members.{cons_here, cons_there, map_in}
use Rattle.spec_levels.specs.Levels.{Row, Node, Index, Leaf, Tree, AreLevels, AreUnder, IsUnder, IsIndexUnder, rows_of, root_row}
use Rattle.spec_levels.specs.Pages.{Page, page_of, level_pages}
use Rattle.law_levels.specs.Laws.{OneTree}
use Rattle.law_levels.proofs.Build.{same_node}
use Rattle.law_levels.proofs.ScanLaw.{AreApart, apart, same_leaf, not_both, first_row}

module _ {V : Type 0} where
  -- the nodes that rows name, seen at one level or another
  same_nodes : (seen : List Page) → AreApart seen → (Is : Row ℕ → Option ℕ → Node V → Type 0)
      → ((row : Row ℕ) (high : Option ℕ) (node : Node V) → Is row high node → row.value ≡ node.page)
      → (at at' : Node V → Page) → ((n : Node V) → page_of (at n) ≡ n.page) → ((n : Node V) → page_of (at' n) ≡ n.page)
      → ((n m : Node V) → at n ≡ at' m → n ≡ m) → (rows : List (Row ℕ)) (nodes others : List (Node V)) → AreUnder Is rows nodes → AreUnder Is rows others
      → ((n : Node V) → Contains nodes n → Contains seen (at n)) → ((n : Node V) → Contains others n → Contains seen (at' n)) → nodes ≡ others
  same_nodes seen apart Is names at at' page page' same [] [] [] under under' on on' = refl
  same_nodes seen apart Is names at at' page page' same [] [] (m ∷ others) under under' on on' = absurd under'
  same_nodes seen apart Is names at at' page page' same [] (n ∷ nodes) others under under' on on' = absurd under
  same_nodes seen apart Is names at at' page page' same (row ∷ rows) [] others under under' on on' = absurd under
  same_nodes seen apart Is names at at' page page' same (row ∷ rows) (n ∷ nodes) [] under under' on on' = absurd under'
  same_nodes seen apart Is names at at' page page' same (row ∷ rows) (n ∷ nodes) (m ∷ others) under under' on on' =
      let number = page n ∙ sym (names row _ n under.0) ∙ names row _ m under'.0 ∙ sym (page' m) in
      ap (λ (x : Node V). x ∷ nodes) (same n m (apart.once (at n) (at' m) (on n (cons_here n nodes)) (on' m (cons_here m others)) number))
      ∙ ap (λ (xs : List (Node V)). m ∷ xs) (same_nodes seen apart Is names at at' page page' same rows nodes others under.1 under'.1
      (λ x i. on x (cons_there n nodes x i)) (λ x i. on' x (cons_there m others x i)))

abbrev AllIn : List (List Index) → List Leaf → List Page → Type 0
AllIn above leaves seen = (p : Page) → Contains (level_pages above leaves) p → Contains seen p

-- an index page isn't seen as a leaf
not_leaves : (seen : List Page) → AreApart seen → (row : Row ℕ) (rest : List (Row ℕ)) (nodes : List Index) (more : List (List Index)) (leaves others : List Leaf)
    → AreUnder IsIndexUnder (row ∷ rest) nodes → AllIn (nodes ∷ more) leaves seen → AreUnder IsUnder (row ∷ rest) others → AllIn [] others seen → ⊥
not_leaves seen apart row rest [] more leaves others under all under' all' = absurd under
not_leaves seen apart row rest (n ∷ nodes) more leaves [] under all under' all' = absurd under'
not_leaves seen apart row rest (n ∷ nodes) more leaves (m ∷ others) under all under' all' =
    let level = suc (length more) in
    let here = map (Page.IndexPage level) (n ∷ nodes) in
    not_both level n m (apart.once (Page.IndexPage level n) (Page.LeafPage m)
    (all (Page.IndexPage level n) (Contains-append_left here (level_pages more leaves) (Page.IndexPage level n) (map_in (Page.IndexPage level) (n ∷ nodes) n (cons_here n nodes))))
    (all' (Page.LeafPage m) (map_in Page.LeafPage (m ∷ others) m (cons_here m others))) (sym under.0.under.page ∙ under'.0.page))

same_levels : (seen : List Page) → AreApart seen → (row : Row ℕ) (rest : List (Row ℕ)) (above : List (List Index)) (leaves : List Leaf) (above' : List (List Index))
    (leaves' : List Leaf) → AreLevels (row ∷ rest) above leaves → AreLevels (row ∷ rest) above' leaves' → AllIn above leaves seen → AllIn above' leaves' seen
    → (above ≡ above') × (leaves ≡ leaves')
same_levels seen apart row rest [] leaves [] leaves' levels levels' all all' = (
  refl,
  same_nodes seen apart IsUnder (λ r high n is. is.page) Page.LeafPage Page.LeafPage (λ n. refl) (λ n. refl) same_leaf (row ∷ rest) leaves leaves' levels.0 levels'.0
      (λ n i. all (Page.LeafPage n) (map_in Page.LeafPage leaves n i)) (λ n i. all' (Page.LeafPage n) (map_in Page.LeafPage leaves' n i)),
)
same_levels seen apart row rest [] leaves (nodes ∷ more) leaves' levels levels' all all' =
    absurd (not_leaves seen apart row rest nodes more leaves' leaves levels'.0 all' levels.0 all)
same_levels seen apart row rest (nodes ∷ more) leaves [] leaves' levels levels' all all' =
    absurd (not_leaves seen apart row rest nodes more leaves leaves' levels.0 all levels'.0 all')
same_levels seen apart row rest ([] ∷ more) leaves (others ∷ more') leaves' levels levels' all all' = absurd levels.0
same_levels seen apart row rest ((n ∷ nodes) ∷ more) leaves (others ∷ more') leaves' levels levels' all all' =
    let level = suc (length more) in
    let level' = suc (length more') in
    let below = level_pages more leaves in
    let below' = level_pages more' leaves' in
    let here = map (Page.IndexPage level) (n ∷ nodes) in
    let here' = map (Page.IndexPage level') others in
    let same : n ∷ nodes ≡ others = same_nodes seen apart IsIndexUnder (λ r high m is. is.under.page) (Page.IndexPage level) (Page.IndexPage level') (λ m. refl) (λ m. refl)
    (same_node level level') (row ∷ rest) (n ∷ nodes) others levels.0 levels'.0
    (λ m i. all (Page.IndexPage level m) (Contains-append_left here below (Page.IndexPage level m) (map_in (Page.IndexPage level) (n ∷ nodes) m i)))
    (λ m i. all' (Page.IndexPage level' m) (Contains-append_left here' below' (Page.IndexPage level' m) (map_in (Page.IndexPage level') others m i))) in
    let f = first_row n.rows row.key levels.0.0.first in
    let next = same_levels seen apart f.0 (f.1 ++ rows_of nodes) more leaves more' leaves'
    (subst (λ (rs : List (Row ℕ)). AreLevels (rs ++ rows_of nodes) more leaves) f.2 levels.2)
    (subst (λ (rs : List (Row ℕ)). AreLevels (rs ++ rows_of nodes) more' leaves') f.2
    (subst (λ (ns : List Index). AreLevels (rows_of ns) more' leaves') (sym same) levels'.2))
    (λ p i. all p (Contains-append_right here below p i)) (λ p i. all' p (Contains-append_right here' below' p i)) in
    (ap (λ (ns : List Index). ns ∷ more) same ∙ ap (λ (ls : List (List Index)). others ∷ ls) next.0, next.1)

same_tree : (tree other : Tree) → tree.above ≡ other.above → tree.leaves ≡ other.leaves → tree ≡ other
same_tree tree other above leaves =
    ap (λ (ls : List (List Index)). the_tree ls tree.leaves) above ∙ ap (λ (ns : List Leaf). the_tree other.above ns) leaves
  where
    the_tree : List (List Index) → List Leaf → Tree
    the_tree ls ns = record { above = ls; leaves = ns }

pub one_tree : OneTree
one_tree root seen tree other is is' =
    let same = same_levels seen (apart root seen tree is) (root_row root) [] tree.above tree.leaves other.above other.leaves is.is.levels is'.is.levels
    (λ p i. (is.pages p).1 i) (λ p i. (is'.pages p).1 i) in same_tree tree other same.0 same.1
