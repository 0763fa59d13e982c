-- The last page of a level names no next: where no error stands, the pages seen are a tree.
use Rattle.std.proofs.Common.{◌≡◌, ◌≢◌, ◌⊎◌, ℕ, zero, suc, ◌+◌, ◌-◌, ◌<◌, ◌≤◌, None, List, [], ◌∷◌, ◌++◌, length, map, Contains, refl, sym, ap, ◌∙◌, subst, inl, inr, ⊎_elim, arith}
use Rattle.std.proofs.lemmas.List.Elements.{Contains-append_left, Contains-append_right, Contains-append_cases}
use Rattle.spec_check.proofs.Members.{nothing_there, cons_cases, cons_here, cons_there, map_from, map_in}
use Rattle.spec_levels.specs.Levels.{Row, Node, Index, Leaf, Tree, AreDistinct, rows_of, pages_of, root_row, IsLinked, AreLevels}
use Rattle.spec_levels.specs.Pages.{Page, page_of, prev_of, level_of, keys_on, level_pages, IsTreeOf}
use Rattle.law_levels.specs.Known.{AreWellFormed}
use Rattle.law_levels.proofs.Clean.{IsClean}
use Rattle.law_levels.proofs.Lists.{rises_between}
use Rattle.law_levels.proofs.Fit.{IsChained, AllFit, first_fits}
use Rattle.law_levels.proofs.Found.{Views, leaf_views, index_views, AllOn}
use Rattle.law_levels.proofs.Build.{AreChained, AreNamed, build, level_step, tree_pages_are}

abbrev last_page : {V : Type 0} → List (Node V) → ℕ
last_page [] = 0
last_page (node ∷ []) = node.page
last_page (node ∷ (next ∷ nodes)) = last_page (next ∷ nodes)

last_in : {V : Type 0} (node : Node V) (nodes : List (Node V)) → Contains (pages_of (node ∷ nodes)) (last_page (node ∷ nodes))
last_in node [] = cons_here node.page []
last_in node (next ∷ nodes) = cons_there node.page (pages_of (next ∷ nodes)) (last_page (next ∷ nodes)) (last_in next nodes)

link_last : {V : Type 0} (before : ℕ) (nodes : List (Node V)) → IsChained before nodes
    → ((n : Node V) → Contains nodes n → n.page ≡ last_page nodes → n.next ≡ 0) → IsLinked before nodes
link_last before [] chained last = tt
link_last before (node ∷ []) chained last = (chained.0, last node (cons_here node []) refl, tt)
link_last before (node ∷ (next ∷ nodes)) chained last =
    (chained.0, chained.1, link_last node.page (next ∷ nodes) chained.2 (λ n i e. last n (cons_there node (next ∷ nodes) n i) e))

-- no page of a level names its last page as prev
none_after : {V : Type 0} (before : ℕ) (nodes : List (Node V)) → IsChained before nodes → AreDistinct (pages_of nodes) → before ≢ last_page nodes
    → (q : Node V) → Contains nodes q → q.prev ≡ last_page nodes → ⊥
none_after before [] chained distinct differs q i is = nothing_there q i
none_after {V = V} before (node ∷ []) chained distinct differs q i is =
    let here : node ≡ q = ⊎_elim (λ e. e) (λ none. absurd (nothing_there q none)) (cons_cases node [] q i) in differs (sym chained.0 ∙ (ap (λ (n : Node V). n.prev) here ∙ is))
none_after {V = V} before (node ∷ (next ∷ nodes)) chained distinct differs q i is =
    ⊎_elim (λ here. differs (sym chained.0 ∙ (ap (λ (n : Node V). n.prev) here ∙ is)))
    (λ there. none_after node.page (next ∷ nodes) chained.2 distinct.1
    (λ e. distinct.0 (subst (Contains (pages_of (next ∷ nodes))) (sym e) (last_in next nodes))) q there is)
    (cons_cases node (next ∷ nodes) q i)

-- the page that a page of a level names as prev is one of the level
prior_in : {V : Type 0} (before : ℕ) (nodes : List (Node V)) → IsChained before nodes → (q : Node V) → Contains nodes q
    → (q.prev ≡ before) ⊎ ((n : Node V) × Contains nodes n × (n.page ≡ q.prev))
prior_in before [] chained q i = absurd (nothing_there q i)
prior_in {V = V} before (node ∷ nodes) chained q i =
    ⊎_elim (λ here. inl (sym (ap (λ (n : Node V). n.prev) here) ∙ chained.0))
    (λ there. inr (⊎_elim (λ e. (node, cons_here node nodes, sym e)) (λ n. (n.0, cons_there node nodes n.0 n.1, n.2)) (prior_in node.page nodes chained.2 q there)))
    (cons_cases node nodes q i)

pub level_low : (above : List (List Index)) (leaves : List Leaf) (p : Page) → Contains (level_pages above leaves) p → level_of p ≤ length above
level_low [] leaves p i = let n = map_from Page.LeafPage leaves p i in subst (λ q. level_of q ≤ 0) n.2 (omega arith)
level_low (nodes ∷ more) leaves p i = ⊎_elim
    (λ here. let n = map_from (Page.IndexPage (suc (length more))) nodes p here in subst (λ q. level_of q ≤ suc (length more)) n.2 (omega arith))
    (λ there. let low = level_low more leaves p there in omega (arith, low))
    (Contains-append_cases (map (Page.IndexPage (suc (length more))) nodes) (level_pages more leaves) p i)

-- a page that q, of a level, names as prev, on the same level
record Prior (q : Page) (all : List Page) : Type 0 where
  p : Page
  on : Contains all p
  page : page_of p ≡ prev_of q
  same : level_of p ≡ level_of q

prior_node : {V : Type 0} (level : ℕ) (at : Node V → Page) → ((n : Node V) → page_of (at n) ≡ n.page) → ((n : Node V) → prev_of (at n) ≡ n.prev)
    → ((n : Node V) → level_of (at n) ≡ level) → (nodes : List (Node V)) → IsChained 0 nodes → (q : Page) → Contains (map at nodes) q → prev_of q ≢ 0 → Prior q (map at nodes)
prior_node level at page prev depth nodes chained q i some =
    let n = map_from at nodes q i in
    ⊎_elim (λ none. absurd (some (sym (ap prev_of n.2) ∙ (prev n.0 ∙ none))))
    (λ m. record {
      p = at m.0;
      on = map_in at nodes m.0 m.1;
      page = page m.0 ∙ (m.2 ∙ (sym (prev n.0) ∙ ap prev_of n.2));
      same = depth m.0 ∙ (sym (depth n.0) ∙ ap level_of n.2);
    })
    (prior_in 0 nodes chained n.0 n.1)

prior : (rows : List (Row ℕ)) (above : List (List Index)) (leaves : List Leaf) → AreChained rows above leaves → (q : Page) → Contains (level_pages above leaves) q
    → prev_of q ≢ 0 → Prior q (level_pages above leaves)
prior rows [] leaves chained q i some = prior_node 0 Page.LeafPage (λ n. refl) (λ n. refl) (λ n. refl) leaves chained.1 q i some
prior rows (nodes ∷ more) leaves chained q i some =
    let level = suc (length more) in
    let at = map (Page.IndexPage level) nodes in
    ⊎_elim (λ here. let r = prior_node level (Page.IndexPage level) (λ n. refl) (λ n. refl) (λ n. refl) nodes chained.1 q here some in
    record { p = r.p; on = Contains-append_left at (level_pages more leaves) r.p r.on; page = r.page; same = r.same })
    (λ there. let r = prior (rows_of nodes) more leaves chained.2 q there some in
    record { p = r.p; on = Contains-append_right at (level_pages more leaves) r.p r.on; page = r.page; same = r.same })
    (Contains-append_cases at (level_pages more leaves) q i)

-- the last page of a level that has all its pages names no next
last_next : {V : Type 0} (root : ℕ) (seen : List Page) (level : ℕ) (at : Node V → Page) → AreWellFormed seen → IsClean root seen → Views seen level at
    → ((q : Page) → Contains seen q → prev_of q ≢ 0 → Prior q seen) → (nodes : List (Node V)) → IsChained 0 nodes → AreDistinct (pages_of nodes) → AllOn seen at nodes
    → ((q : Page) → Contains seen q → level_of q ≡ level → (n : Node V) × Contains nodes n × (at n ≡ q)) → (n : Node V) → Contains nodes n
    → n.page ≡ last_page nodes → n.next ≡ 0
last_next {V = V} root seen level at pages clean views priors nodes chained distinct on all n i last = zero_or n.next (λ some.
    let here = on n i in
    let q = clean.next_seen (at n) here (λ none. some (sym (views.next n) ∙ none)) in
    let back = clean.crossed (at n) q.0 here q.1 q.2 in
    let nonzero = pages.nonzero (at n) here in
    let r = priors q.0 q.1 (λ none. nonzero (sym back ∙ none)) in
    let is : r.p ≡ at n = pages.once r.p (at n) r.on here (r.page ∙ back) in
    let m = all q.0 q.1 (sym r.same ∙ (ap level_of is ∙ views.depth n)) in
    let page : prev_of q.0 ≡ n.page = back ∙ views.page n in
    none_after 0 nodes chained distinct (λ e. nonzero (views.page n ∙ (last ∙ sym e))) m.0 m.1
    (sym (views.prev m.0) ∙ (ap prev_of m.2 ∙ (page ∙ last))))
  where
    zero_or : (k : ℕ) → (k ≢ 0 → ⊥) → k ≡ 0
    zero_or zero h = refl
    zero_or (suc k) h = absurd (h (λ e. omega (arith, e)))

-- levels that have all pages of their levels
abbrev AreAll : List Page → List (List Index) → List Leaf → Type 0
AreAll seen above leaves = (p : Page) → Contains seen p → level_of p ≤ length above → Contains (level_pages above leaves) p

abbrev AreOn : List Page → List (List Index) → List Leaf → Type 0
AreOn seen above leaves = (p : Page) → Contains (level_pages above leaves) p → Contains seen p

pub first_distinct : (xs ys : List ℕ) → AreDistinct (xs ++ ys) → AreDistinct xs × AreDistinct ys
first_distinct [] ys d = (tt, d)
first_distinct (x ∷ xs) ys d = let rest = first_distinct xs ys d.1 in ((λ h. d.0 (Contains-append_left xs ys x h), rest.0), rest.1)

leaves_distinct : (leaves : List Leaf) → map page_of (map Page.LeafPage leaves) ≡ pages_of leaves
leaves_distinct leaves = tree_pages_are [] leaves

-- the levels are linked to their ends
close : (root : ℕ) (seen : List Page) → AreWellFormed seen → IsClean root seen → ((q : Page) → Contains seen q → prev_of q ≢ 0 → Prior q seen)
    → (rows : List (Row ℕ)) (above : List (List Index)) (leaves : List Leaf) → AreChained rows above leaves → AreOn seen above leaves → AreAll seen above leaves
    → AreDistinct (map page_of (level_pages above leaves)) → AreLevels rows above leaves
close root seen pages clean priors rows [] leaves chained on all distinct = (
  chained.0,
  link_last 0 leaves chained.1 (last_next root seen 0 Page.LeafPage pages clean (leaf_views seen pages) priors leaves chained.1
      (subst AreDistinct (leaves_distinct leaves) distinct) (λ n i. on (Page.LeafPage n) (map_in Page.LeafPage leaves n i))
      (λ q i is. map_from Page.LeafPage leaves q (all q i (omega (arith, is))))),
)
close root seen pages clean priors rows (nodes ∷ more) leaves chained on all distinct =
    let level = suc (length more) in
    let at = map (Page.IndexPage level) nodes in
    let apart = first_distinct (pages_of nodes) (map page_of (level_pages more leaves)) (subst AreDistinct (level_step nodes more leaves) distinct) in (
      chained.0,
      link_last 0 nodes chained.1 (last_next root seen level (Page.IndexPage level) pages clean (index_views seen (length more)) priors nodes chained.1
          apart.0 (λ n i. on (Page.IndexPage level n) (Contains-append_left at (level_pages more leaves) (Page.IndexPage level n) (map_in (Page.IndexPage level) nodes n i)))
          (λ q i is. ⊎_elim (λ here. map_from (Page.IndexPage level) nodes q here)
          (λ there. let low = level_low more leaves q there in absurd (omega (arith, low, is)))
          (Contains-append_cases at (level_pages more leaves) q (all q i (omega (arith, is)))))),
      close root seen pages clean priors (rows_of nodes) more leaves chained.2
          (λ p i. on p (Contains-append_right at (level_pages more leaves) p i))
          (λ p i low. ⊎_elim
          (λ here. let n = map_from (Page.IndexPage level) nodes p here in let deep : level ≡ level_of p = ap level_of n.2 in absurd (omega (arith, deep, low)))
          (λ there. there) (Contains-append_cases at (level_pages more leaves) p (all p i (omega (arith, low)))))
          apart.1,
    )

level_high : (seen : List Page) → AreWellFormed seen → (p : Page) → Contains seen p → level_of p ≤ 15
level_high seen pages (Page.LeafPage n) i = omega arith
level_high seen pages (Page.IndexPage l n) i = (pages.levels l n i).1

-- each page is the root, or below its level
climb : (root : ℕ) (seen : List Page) → AreWellFormed seen → (clean : IsClean root seen) → (n : ℕ) (p : Page) → Contains seen p → level_of p + n ≡ 15
    → (p ≡ clean.root_seen.0) ⊎ (level_of p < level_of clean.root_seen.0)
climb root seen pages clean zero p i is =
    ⊎_elim (λ at_root. inl (pages.once p clean.root_seen.0 i clean.root_seen.1 (at_root ∙ sym clean.root_seen.2)))
    (λ a. let deep = clean.level p i a in let high = pages.levels a.level a.node a.on in absurd (omega (arith, deep, is, high.1))) (clean.parent p i)
climb root seen pages clean (suc n) p i is =
    ⊎_elim (λ at_root. inl (pages.once p clean.root_seen.0 i clean.root_seen.1 (at_root ∙ sym clean.root_seen.2)))
    (λ a. let deep = clean.level p i a in
    ⊎_elim (λ e. let same : a.level ≡ level_of clean.root_seen.0 = ap level_of e in inr (omega (arith, deep, same)))
    (λ low. inr (omega (arith, deep, low)))
    (climb root seen pages clean n (Page.IndexPage a.level a.node) a.on (omega (arith, deep, is)))) (clean.parent p i)

top_or_below : (root : ℕ) (seen : List Page) → AreWellFormed seen → (clean : IsClean root seen) → (p : Page) → Contains seen p
    → (p ≡ clean.root_seen.0) ⊎ (level_of p < level_of clean.root_seen.0)
top_or_below root seen pages clean p i =
    let high = level_high seen pages p i in climb root seen pages clean (15 - level_of p) p i (omega (arith, high))

only_root : (root : ℕ) (seen : List Page) → AreWellFormed seen → (clean : IsClean root seen) → AreNamed seen (level_of clean.root_seen.0) (root_row root ∷ [])
only_root root seen pages clean p i is =
    ⊎_elim (λ e. subst (Contains (root ∷ [])) (sym clean.root_seen.2 ∙ ap page_of (sym e)) (cons_here root []))
    (λ low. absurd (omega (arith, is, low))) (top_or_below root seen pages clean p i)

root_fits : (root : ℕ) (seen : List Page) → AreWellFormed seen → (clean : IsClean root seen) → AllFit seen (level_of clean.root_seen.0) 0 None (root_row root ∷ [])
root_fits root seen pages clean =
    let p = clean.root_seen.0 in
    let on = clean.root_seen.1 in
    let fits = clean.root_first p on clean.root_seen.2 in (
      (
        p,
        record {
          on = on;
          page = clean.root_seen.2;
          at = refl;
          first = fits;
          keys = rises_between 0 None (keys_on p) (pages.rises p on) (first_fits 0 p fits) (λ key last. tt);
          prev = clean.root_prev p on clean.root_seen.2;
        },
      ),
      tt,
    )

-- where no error stands, the pages seen are a tree
pub clean_is_tree : (root : ℕ) (seen : List Page) → AreWellFormed seen → IsClean root seen → (tree : Tree) × IsTreeOf root seen tree
clean_is_tree root seen pages clean =
    let pr = clean.root_seen in
    let top = level_of pr.0 in
    let rows = root_row root ∷ [] in
    let tops : (p : Page) → Contains seen p → page_of p ≡ root → level_of p ≡ top = λ p i at. ap level_of (pages.once p pr.0 i pr.1 (at ∙ sym pr.2)) in
    let b = build seen pages root top clean tops top rows (omega arith) (root_fits root seen pages clean)
    (λ h. nothing_there root h, tt) (only_root root seen pages clean) in
    let low : (p : Page) → Contains seen p → level_of p ≤ top =
    λ p i. ⊎_elim (λ e. let same : level_of p ≡ top = ap level_of e in omega (arith, same)) (λ l. omega (arith, l)) (top_or_below root seen pages clean p i) in
    let all : (p : Page) → Contains seen p → Contains (level_pages b.above b.leaves) p = λ p i. b.complete p i (low p i) in
    let priors : (q : Page) → Contains seen q → prev_of q ≢ 0 → Prior q seen = λ q i some.
    let r = prior rows b.above b.leaves b.chained q (all q i) some in record { p = r.p; on = (b.sound r.p r.on).0; page = r.page; same = r.same } in
    let height = b.height in
    let high = level_high seen pages pr.0 pr.1 in (
      record { above = b.above; leaves = b.leaves },
      record {
        is = record {
          levels = close root seen pages clean priors rows b.above b.leaves b.chained (λ p i. (b.sound p i).0) (λ p i l. all p i) b.distinct;
          distinct = subst AreDistinct (tree_pages_are b.above b.leaves) b.distinct;
          nonzero = λ h. let p = map_from page_of (level_pages b.above b.leaves) 0 (subst (λ ks. Contains ks 0) (sym (tree_pages_are b.above b.leaves)) h) in
              pages.nonzero p.0 (b.sound p.0 p.1).0 p.2;
          height = omega (arith, height, high);
        };
        pages = λ p. (all p, λ i. (b.sound p i).0);
      },
    )
