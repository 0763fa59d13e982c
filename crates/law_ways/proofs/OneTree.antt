-- An image shows at most one tree with a root: level by level, the rows above name the pages, and these tell the rest.
use Rattle.std.proofs.Common.{◌≡◌, ℕ, suc, List, [], ◌∷◌, length, None, refl, sym, ap, ◌∙◌, subst, arith}
use Rattle.spec_levels.specs.Levels.{Payload, Row, Node, Tree, rows_of}
use Rattle.spec_ways.specs.Insert.{root_rows}
use Rattle.spec_levels.specs.Pages.{Page, LeafPage, IndexPage}
use Rattle.spec_ways.specs.Pages.{Pages, ShowsLevel, Shows}
use Rattle.law_ways.proofs.Bridge.{fits_from}
use Rattle.law_ways.proofs.Fits.{Level, StartsAt, Fits}
use Rattle.law_ways.proofs.GrowLaws.{rows_start}
use Rattle.law_ways.specs.WayLaws.{OneTree}

-- what a page holds
leaf_in : Page → Node Payload → Node Payload
leaf_in (LeafPage n) other = n
leaf_in (IndexPage level n) other = other

node_in : Page → Node ℕ → Node ℕ
node_in (LeafPage n) other = other
node_in (IndexPage level n) other = n

level_in : Page → ℕ
level_in (LeafPage n) = 0
level_in (IndexPage level n) = level

leaf_same : (n m : Node Payload) → LeafPage n ≡ LeafPage m → n ≡ m
unfolding leaf_in
leaf_same n m e = ap (λ page. leaf_in page n) e

node_same : (level : ℕ) (n m : Node ℕ) → IndexPage level n ≡ IndexPage level m → n ≡ m
unfolding node_in
node_same level n m e = ap (λ page. node_in page n) e

level_same : (level level' : ℕ) (n m : Node ℕ) → IndexPage level n ≡ IndexPage level' m → level ≡ level'
unfolding level_in
level_same level level' n m e = ap level_in e

leaf_apart : (level : ℕ) (n : Node Payload) (m : Node ℕ) → LeafPage n ≡ IndexPage (suc level) m → ⊥
unfolding level_in
leaf_apart level n m e = let f = ap level_in e in omega (arith, f)

same_level : {V : Type 0} (kind : Node V → Page) → ((n m : Node V) → kind n ≡ kind m → n ≡ m) → (image : Pages) (rows : List (Row ℕ)) (nodes nodes' : List (Node V))
    → Level None rows nodes → Level None rows nodes' → ShowsLevel kind image nodes → ShowsLevel kind image nodes' → nodes ≡ nodes'
same_level kind one image [] [] [] l l' s s' = refl
same_level kind one image [] [] (m ∷ ms) l l' s s' = absurd l'
same_level kind one image [] (n ∷ ns) nodes' l l' s s' = absurd l
same_level kind one image (r ∷ rest) [] nodes' l l' s s' = absurd l
same_level kind one image (r ∷ rest) (n ∷ ns) [] l l' s s' = absurd l'
same_level kind one image (r ∷ rest) (n ∷ ns) (m ∷ ms) l l' s s' =
    ap (λ x. x ∷ ns) (one n m (sym s.0 ∙ ap image (sym l.0 ∙ l'.0) ∙ s'.0)) ∙ ap (λ xs. m ∷ xs) (same_level kind one image rest ns ms l.2 l'.2 s.1 s'.1)

-- the first pages of two levels under the same rows
record AreSame {V : Type 0} {W : Type 0} (kind : Node V → Page) (kind' : Node W → Page) : Type 0 where
  node : Node V
  other : Node W
  same : kind node ≡ kind' other

first_same : {V : Type 0} {W : Type 0} (kind : Node V → Page) (kind' : Node W → Page) (image : Pages) (low : ℕ) (rows : List (Row ℕ)) (nodes : List (Node V)) (nodes' : List (Node W))
    → StartsAt low rows → Level None rows nodes → Level None rows nodes' → ShowsLevel kind image nodes → ShowsLevel kind' image nodes' → AreSame kind kind'
first_same kind kind' image low [] nodes nodes' at l l' s s' = absurd at
first_same kind kind' image low (r ∷ rest) [] nodes' at l l' s s' = absurd l
first_same kind kind' image low (r ∷ rest) (n ∷ ns) [] at l l' s s' = absurd l'
first_same kind kind' image low (r ∷ rest) (n ∷ ns) (m ∷ ms) at l l' s s' = record { node = n; other = m; same = sym s.0 ∙ ap image (sym l.0 ∙ l'.0) ∙ s'.0 }

record Same (above above' : List (List (Node ℕ))) (leaves leaves' : List (Node Payload)) : Type 0 where
  above_are : above ≡ above'
  leaves_are : leaves ≡ leaves'

same_levels : (image : Pages) (low : ℕ) (rows : List (Row ℕ)) (above above' : List (List (Node ℕ))) (leaves leaves' : List (Node Payload)) → StartsAt low rows
    → Fits None rows above leaves → Fits None rows above' leaves' → Shows image above leaves → Shows image above' leaves' → Same above above' leaves leaves'
same_levels image low rows [] [] leaves leaves' at f f' s s' = record { above_are = refl; leaves_are = same_level LeafPage leaf_same image rows leaves leaves' f.0 f'.0 s s' }
same_levels image low rows [] (nodes' ∷ more') leaves leaves' at f f' s s' =
    let h = first_same LeafPage (IndexPage (suc (length more'))) image low rows leaves nodes' at f.0 f'.0 s s'.0 in absurd (leaf_apart (length more') h.node h.other h.same)
same_levels image low rows (nodes ∷ more) [] leaves leaves' at f f' s s' =
    let h = first_same LeafPage (IndexPage (suc (length more))) image low rows leaves' nodes at f'.0 f.0 s' s.0 in absurd (leaf_apart (length more) h.node h.other h.same)
same_levels image low rows (nodes ∷ more) (nodes' ∷ more') leaves leaves' at f f' s s' =
    let h = first_same (IndexPage (suc (length more))) (IndexPage (suc (length more'))) image low rows nodes nodes' at f.0 f'.0 s.0 s'.0 in
    let level = level_same (suc (length more)) (suc (length more')) h.node h.other h.same in
    let here = same_level (IndexPage (suc (length more))) (node_same (suc (length more))) image rows nodes nodes' f.0 f'.0 s.0 (subst (λ (l : ℕ). ShowsLevel (IndexPage l) image nodes') (sym level) s'.0) in
    let below = same_levels image low (rows_of nodes) more more' leaves leaves' (rows_start low None rows nodes at f.0 f.1) f.3
    (subst (λ (ns : List (Node ℕ)). Fits None (rows_of ns) more' leaves') (sym here) f'.3) s.1 s'.1 in
    record { above_are = ap (λ ns. ns ∷ more) here ∙ ap (λ l. nodes' ∷ l) below.above_are; leaves_are = below.leaves_are }

abbrev tree_of : List (List (Node ℕ)) → List (Node Payload) → Tree
tree_of above leaves = record { above = above; leaves = leaves }

tree_same : (above above' : List (List (Node ℕ))) (leaves leaves' : List (Node Payload)) → above ≡ above' → leaves ≡ leaves' → tree_of above leaves ≡ tree_of above' leaves'
tree_same above above' leaves leaves' e f = ap (λ a. tree_of a leaves) e ∙ ap (tree_of above') f

pub one_tree : OneTree
one_tree root tree other image is is' s s' =
    let h = same_levels image 0 (root_rows root) tree.above other.above tree.leaves other.leaves refl
    (fits_from (root_rows root) tree.above tree.leaves is.levels) (fits_from (root_rows root) other.above other.leaves is'.levels) s s' in
    tree_same tree.above other.above tree.leaves other.leaves h.above_are h.leaves_are
