-- The pages that fit the rows of a level are the nodes of the level below.
use Rattle.std.proofs.Common.{◌≡◌, ℕ, suc, Option, None, List, [], ◌∷◌, Contains, refl, sym, ap, ◌∙◌, subst, ⊎_elim, arith}
use Rattle.spec_check.proofs.Members.{nothing_there, cons_cases, cons_here, cons_there}
use Rattle.spec_levels.specs.Levels.{Row, Node, Index, Leaf, first_key, keys_of, AreUnder, IsUnder, IsIndexUnder}
use Rattle.spec_levels.specs.Pages.{Page, page_of, prev_of, next_of, level_of, keys_on}
use Rattle.law_levels.specs.Known.{AreWellFormed}
use Rattle.law_levels.proofs.Clean.{IsClean}
use Rattle.law_levels.proofs.Fit.{Fits, AllFit, first_or, NextIs, IsChained}

-- nodes as pages of a level
pub record Views {V : Type 0} (seen : List Page) (level : ℕ) (at : Node V → Page) : Type 0 where
  pub page : (n : Node V) → page_of (at n) ≡ n.page
  pub prev : (n : Node V) → prev_of (at n) ≡ n.prev
  pub next : (n : Node V) → next_of (at n) ≡ n.next
  pub keys : (n : Node V) → keys_on (at n) ≡ keys_of n.rows
  pub depth : (n : Node V) → level_of (at n) ≡ level
  pub from : (p : Page) → Contains seen p → level_of p ≡ level → (n : Node V) × (p ≡ at n)

pub leaf_views : (seen : List Page) → AreWellFormed seen → Views seen 0 Page.LeafPage
leaf_views seen pages = record {
  page = λ n. refl;
  prev = λ n. refl;
  next = λ n. refl;
  keys = λ n. refl;
  depth = λ n. refl;
  from = leaf_from seen pages;
} where
  leaf_from : (seen : List Page) → AreWellFormed seen → (p : Page) → Contains seen p → level_of p ≡ 0 → (n : Leaf) × (p ≡ Page.LeafPage n)
  leaf_from seen pages (Page.LeafPage n) on at = (n, refl)
  leaf_from seen pages (Page.IndexPage l n) on at = absurd (omega (arith, at, (pages.levels l n on).0))

index_from : (seen : List Page) (level : ℕ) (p : Page) → Contains seen p → level_of p ≡ suc level → (n : Index) × (p ≡ Page.IndexPage (suc level) n)
index_from seen level (Page.LeafPage n) on at = absurd (omega (arith, at))
index_from seen level (Page.IndexPage l n) on at = (n, ap (λ k. Page.IndexPage k n) at)

pub index_views : (seen : List Page) (level : ℕ) → Views seen (suc level) (Page.IndexPage (suc level))
index_views seen level = record {
  page = λ n. refl;
  prev = λ n. refl;
  next = λ n. refl;
  keys = λ n. refl;
  depth = λ n. refl;
  from = index_from seen level;
}

abbrev pub ArePrev : {V : Type 0} → ℕ → List (Node V) → Type 0
ArePrev before [] = Unit {0}
ArePrev before (node ∷ nodes) = (node.prev ≡ before) × ArePrev node.page nodes

abbrev pub AllOn : {V : Type 0} → List Page → (Node V → Page) → List (Node V) → Type 0
AllOn {V = V} seen at nodes = (n : Node V) → Contains nodes n → Contains seen (at n)

-- the nodes that rows name
pub record Found {V : Type 0} (seen : List Page) (at : Node V → Page) (Is : Row ℕ → Option ℕ → Node V → Type 0) (before : ℕ) (rows : List (Row ℕ)) : Type 0 where
  pub nodes : List (Node V)
  pub under : AreUnder Is rows nodes
  pub on : AllOn seen at nodes
  pub prevs : ArePrev before nodes

all_on : {V : Type 0} (seen : List Page) (at : Node V → Page) (node : Node V) (nodes : List (Node V)) → Contains seen (at node) → AllOn seen at nodes
    → AllOn seen at (node ∷ nodes)
all_on {V = V} seen at node nodes on all n i = ⊎_elim (λ e. subst (λ (m : Node V). Contains seen (at m)) e on) (all n) (cons_cases node nodes n i)

first_none : (rows : List (Row ℕ)) → first_or rows None ≡ first_key rows
first_none [] = refl
first_none (row ∷ rows) = refl

pub find : {V : Type 0} (seen : List Page) (level : ℕ) (at : Node V → Page) (Is : Row ℕ → Option ℕ → Node V → Type 0) → Views seen level at
    → ((row : Row ℕ) (end : Option ℕ) (before : ℕ) (n : Node V) → Fits seen level row end before (at n) → Is row end n)
    → (before : ℕ) (rows : List (Row ℕ)) → AllFit seen level before None rows → Found seen at Is before rows
find seen level at Is views is before [] fits = record { nodes = []; under = tt; on = λ n i. absurd (nothing_there n i); prevs = tt }
find {V = V} seen level at Is views is before (row ∷ rows) fits =
    let fit = fits.0.1 in
    let node = views.from fits.0.0 fit.on fit.at in
    let here = subst (λ p. Fits seen level row (first_or rows None) before p) node.1 fit in
    let page : row.value ≡ node.0.page = sym here.page ∙ views.page node.0 in
    let rest = find seen level at Is views is row.value rows fits.1 in
    record {
      nodes = node.0 ∷ rest.nodes;
      under = (subst (λ end. Is row end node.0) (first_none rows) (is row (first_or rows None) before node.0 here), rest.under);
      on = all_on seen at node.0 rest.nodes here.on rest.on;
      prevs = (sym (views.prev node.0) ∙ here.prev, subst (λ k. ArePrev k rest.nodes) page rest.prevs);
    }

pub is_leaf : (seen : List Page) (row : Row ℕ) (end : Option ℕ) (before : ℕ) (n : Leaf) → Fits seen 0 row end before (Page.LeafPage n) → IsUnder row end n
is_leaf seen row end before n fits = record { page = sym fits.page; keys = fits.keys }

pub is_index : (seen : List Page) (level : ℕ) (row : Row ℕ) (end : Option ℕ) (before : ℕ) (n : Index) → Fits seen level row end before (Page.IndexPage level n)
    → IsIndexUnder row end n
is_index seen level row end before n fits = record { under = record { page = sym fits.page; keys = fits.keys }; first = fits.first }

-- a page that names the page before it as prev is the one that this names as next
next_is : {V : Type 0} (root : ℕ) (seen : List Page) (level : ℕ) (at : Node V → Page) → AreWellFormed seen → IsClean root seen → Views seen level at
    → (node : Node V) (nodes : List (Node V)) → AllOn seen at (node ∷ nodes) → ArePrev node.page nodes → NextIs node nodes
next_is root seen level at pages clean views node [] on prevs = tt
next_is {V = V} root seen level at pages clean views node (m ∷ nodes) on prevs =
    let here = on node (cons_here node (m ∷ nodes)) in
    let there = on m (cons_there node (m ∷ nodes) m (cons_here m nodes)) in
    let is : prev_of (at m) ≡ page_of (at node) = views.prev m ∙ (prevs.0 ∙ sym (views.page node)) in
    let before = clean.linked (at m) there (λ none. pages.nonzero (at node) here (sym is ∙ none)) in
    let same : before.0 ≡ at node = pages.once before.0 (at node) before.1 here (before.3 ∙ is) in
    sym (views.next node) ∙ (sym (ap next_of same) ∙ (before.2 ∙ views.page m))

pub chain : {V : Type 0} (root : ℕ) (seen : List Page) (level : ℕ) (at : Node V → Page) → AreWellFormed seen → IsClean root seen → Views seen level at
    → (before : ℕ) (nodes : List (Node V)) → AllOn seen at nodes → ArePrev before nodes → IsChained before nodes
chain root seen level at pages clean views before [] on prevs = tt
chain root seen level at pages clean views before (node ∷ nodes) on prevs = (
  prevs.0,
  next_is root seen level at pages clean views node nodes on prevs.1,
  chain root seen level at pages clean views node.page nodes (λ n i. on n (cons_there node nodes n i)) prevs.1,
)
