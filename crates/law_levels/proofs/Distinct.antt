-- Where no page has two parents, no page stands twice on a level.
use Rattle.std.proofs.Common.{◌≡◌, ℕ, Option, List, [], ◌∷◌, ◌++◌, length, map, Contains, refl, sym, ap, ◌∙◌, subst, arith}
use Rattle.std.proofs.lemmas.List.{length-append, append_assoc, map-append}
use Rattle.spec_check.proofs.Members.{cons_here, cons_there, map_from, map_in}
use Rattle.spec_levels.specs.Levels.{Row, Node, Index, AreDistinct, rows_of, pages_of, AreUnder}
use Rattle.spec_levels.specs.Pages.{Page}
use Rattle.law_levels.specs.Known.{Parent}
use Rattle.law_levels.proofs.Clean.{IsClean}
use Rattle.law_levels.proofs.Fit.{parent_at, AreSeen}
use Rattle.law_levels.proofs.Lists.{distinct_append, part, flat_from}

-- the pages that rows name
abbrev pub values_of : List (Row ℕ) → List ℕ
values_of rows = map (λ row. row.value) rows

-- the rows of a node name distinct pages
node_distinct : (root : ℕ) (seen : List Page) → IsClean root seen → (level : ℕ) (node : Index) → Contains seen (Page.IndexPage level node)
    → (front rest : List (Row ℕ)) → node.rows ≡ front ++ rest → AreDistinct (values_of rest)
node_distinct root seen clean level node on front [] rows = tt
node_distinct root seen clean level node on front (row ∷ back) rows = (
  (λ again.
      let other = map_from (λ (r : Row ℕ). r.value) back row.value again in
      let at = part back other.0 other.1 in
      let a = parent_at seen level row.value node front row back on rows refl in
      let there : node.rows ≡ (front ++ row ∷ at.front) ++ other.0 ∷ at.back =
      rows ∙ (ap (λ (rs : List (Row ℕ)). front ++ row ∷ rs) at.is ∙ sym (append_assoc front (row ∷ at.front) (other.0 ∷ at.back))) in
      let b = parent_at seen level row.value node (front ++ row ∷ at.front) other.0 at.back on there other.2 in
      let same : length front ≡ length (front ++ row ∷ at.front) = (clean.one_parent row.value a b).1 in
      omega (arith, same, length-append front (row ∷ at.front))),
  node_distinct root seen clean level node on (front ++ row ∷ []) back (rows ∙ sym (append_assoc front (row ∷ []) back)),
)

-- a page that is named on a level has a parent there
pub parent_in : (seen : List Page) (level : ℕ) (nodes : List Index) → AreSeen seen level nodes → (k : ℕ) → Contains (values_of (rows_of nodes)) k
    → (a : Parent seen k) × Contains nodes a.node
parent_in seen level nodes are k h =
    let row = map_from (λ (r : Row ℕ). r.value) (rows_of nodes) k h in
    let node = flat_from (λ (n : Index). n.rows) nodes row.0 row.1 in
    let at = part node.0.rows row.0 node.2 in
    (parent_at seen level k node.0 at.front row.0 at.back (are node.0 node.1) at.is row.2, node.1)

pub values_distinct : (root : ℕ) (seen : List Page) → IsClean root seen → (level : ℕ) (nodes : List Index) → AreSeen seen level nodes
    → AreDistinct (pages_of nodes) → AreDistinct (values_of (rows_of nodes))
values_distinct root seen clean level [] are distinct = tt
values_distinct root seen clean level (node ∷ nodes) are distinct =
    let on = are node (cons_here node nodes) in
    let rest : AreSeen seen level nodes = λ n i. are n (cons_there node nodes n i) in
    subst AreDistinct (sym (map-append (λ (r : Row ℕ). r.value) node.rows (rows_of nodes)))
    (distinct_append (values_of node.rows) (values_of (rows_of nodes)) (node_distinct root seen clean level node on [] node.rows refl)
    (values_distinct root seen clean level nodes rest distinct.1)
    (λ k here there.
    let row = map_from (λ (r : Row ℕ). r.value) node.rows k here in
    let at = part node.rows row.0 row.1 in
    let a = parent_at seen level k node at.front row.0 at.back on at.is row.2 in
    let b = parent_in seen level nodes rest k there in
    let same : node.page ≡ b.0.node.page = (clean.one_parent k a b.0).0 in
    distinct.0 (subst (Contains (pages_of nodes)) (sym same) (map_in (λ (n : Index). n.page) nodes b.0.node b.1))))

-- the nodes under rows are the pages that these name
pub under_pages : {V : Type 0} (Is : Row ℕ → Option ℕ → Node V → Type 0) → ((row : Row ℕ) (end : Option ℕ) (n : Node V) → Is row end n → row.value ≡ n.page)
    → (rows : List (Row ℕ)) (nodes : List (Node V)) → AreUnder Is rows nodes → values_of rows ≡ pages_of nodes
under_pages Is names [] [] under = refl
under_pages Is names [] (node ∷ nodes) under = absurd under
under_pages Is names (row ∷ rows) [] under = absurd under
under_pages {V = V} Is names (row ∷ rows) (node ∷ nodes) under =
    ap (λ k. k ∷ values_of rows) (names row _ node under.0) ∙ ap (λ (ks : List ℕ). node.page ∷ ks) (under_pages Is names rows nodes under.1)
