-- Where the pages seen are a tree, no error stands.
use Rattle.std.proofs.Common.{◌≡◌, ◌≢◌, ◌⊎◌, ℕ, suc, ◌+◌, ◌<◌, ◌≤◌, Option, Some, None, List, [], ◌∷◌, ◌++◌, length, map, Contains, refl, sym, ap, ◌∙◌, subst, inl, inr, ⊎_elim, arith}
use Rattle.std.proofs.lemmas.List.{append_assoc}
use Rattle.std.proofs.lemmas.List.Concat.{flat_map-append}
use Rattle.std.proofs.lemmas.List.Elements.{Contains-append_left, Contains-append_right, Contains-append_cases}
use Rattle.spec_check.proofs.Members.{nothing_there, cons_cases, cons_here, cons_there, map_from, map_in}
use Rattle.spec_levels.specs.Levels.{Row, Node, Index, Leaf, AreDistinct, IsBelow, Rises, first_key, first_page, keys_of, rows_of, IsUnder, IsIndexUnder, AreUnder, IsLinked, AreLevels}
use Rattle.spec_levels.specs.Pages.{Page, page_of, prev_of, next_of, level_of, level_pages}
use Rattle.law_levels.specs.Known.{AreWellFormed, Parent, last_value, last_in, first_in}
use Rattle.law_levels.proofs.Clean.{High, Before}
use Rattle.law_levels.proofs.Lists.{part, some_rows}
use Rattle.law_levels.proofs.Fit.{Fits, last_or, AreSeen}
use Rattle.law_levels.proofs.Distinct.{values_of, under_pages, parent_in}
use Rattle.law_levels.proofs.Build.{same_node}

-- the node that a row of the level above names
pub record Child {V : Type 0} (Is : Row ℕ → Option ℕ → Node V → Type 0) (before : ℕ) (front : List (Row ℕ)) (row : Row ℕ) (back : List (Row ℕ)) (nodes : List (Node V)) : Type 0 where
  pub node : Node V
  pub on : Contains nodes node
  pub is : Is row (first_key back) node
  pub prev : node.prev ≡ last_or before front

child_node : {V : Type 0} (Is : Row ℕ → Option ℕ → Node V → Type 0) → ((row : Row ℕ) (end : Option ℕ) (n : Node V) → Is row end n → row.value ≡ n.page)
    → (before : ℕ) (front : List (Row ℕ)) (row : Row ℕ) (back : List (Row ℕ)) (nodes : List (Node V)) → AreUnder Is (front ++ row ∷ back) nodes → IsLinked before nodes
    → Child Is before front row back nodes
child_node Is names before [] row back [] under linked = absurd under
child_node Is names before [] row back (node ∷ nodes) under linked = record { node = node; on = cons_here node nodes; is = under.0; prev = linked.0 }
child_node Is names before (f ∷ front) row back [] under linked = absurd under
child_node Is names before (f ∷ front) row back (node ∷ nodes) under linked =
    let page = names f _ node under.0 in
    let rest = child_node Is names f.value front row back nodes under.1 (subst (λ k. IsLinked k nodes) (sym page) linked.2) in
    record { node = rest.node; on = cons_there node nodes rest.node rest.on; is = rest.is; prev = rest.prev }

leaf_first : (row : Row ℕ) (end : Option ℕ) (low : ℕ) (keys : List ℕ) → Rises low end keys → (key : ℕ) → first_in keys ≡ Some key → low ≤ key
leaf_first row end low [] r key is = absurd (cc)
leaf_first row end low (k ∷ keys) r key is = let e : k ≡ key = cc in omega (arith, e, r.0)

-- the page that a row of the level above names
pub child_fits : (seen : List Page) (front : List (Row ℕ)) (row : Row ℕ) (back : List (Row ℕ)) (above : List (List Index)) (leaves : List Leaf)
    → AreLevels (front ++ row ∷ back) above leaves → ((p : Page) → Contains (level_pages above leaves) p → Contains seen p)
    → (p : Page) × Fits seen (length above) row (first_key back) (last_or 0 front) p
child_fits seen front row back [] leaves levels on =
    let c = child_node IsUnder (λ r end n is. is.page) 0 front row back leaves levels.0 levels.1 in (
      Page.LeafPage c.node,
      record {
        on = on (Page.LeafPage c.node) (map_in Page.LeafPage leaves c.node c.on);
        page = sym c.is.page;
        at = refl;
        first = leaf_first row (first_key back) row.key (keys_of c.node.rows) c.is.keys;
        keys = c.is.keys;
        prev = c.prev;
      },
    )
child_fits seen front row back (nodes ∷ more) leaves levels on =
    let c = child_node IsIndexUnder (λ r end n is. is.under.page) 0 front row back nodes levels.0 levels.1 in
    let level = suc (length more) in (
      Page.IndexPage level c.node,
      record {
        on = on (Page.IndexPage level c.node) (Contains-append_left (map (Page.IndexPage level) nodes) (level_pages more leaves) (Page.IndexPage level c.node)
            (map_in (Page.IndexPage level) nodes c.node c.on));
        page = sym c.is.under.page;
        at = refl;
        first = c.is.first;
        keys = c.is.under.keys;
        prev = c.prev;
      },
    )

-- an index page stands on the first of some levels of the tree
pub record Sub (seen : List Page) (leaves : List Leaf) (l : ℕ) (m : Index) : Type 0 where
  pub rows : List (Row ℕ)
  pub nodes : List Index
  pub more : List (List Index)
  pub levels : AreLevels rows (nodes ∷ more) leaves
  pub depth : l ≡ suc (length more)
  pub on : Contains nodes m
  pub all : (p : Page) → Contains (level_pages (nodes ∷ more) leaves) p → Contains seen p

sub : (seen : List Page) (rows : List (Row ℕ)) (above : List (List Index)) (leaves : List Leaf) → AreLevels rows above leaves
    → ((p : Page) → Contains (level_pages above leaves) p → Contains seen p) → (l : ℕ) (m : Index) → Contains (level_pages above leaves) (Page.IndexPage l m) → Sub seen leaves l m
sub seen rows [] leaves levels all l m i = let n = map_from Page.LeafPage leaves (Page.IndexPage l m) i in let e = n.2 in absurd (cc)
sub seen rows (nodes ∷ more) leaves levels all l m i =
    let level = suc (length more) in
    let at = map (Page.IndexPage level) nodes in
    ⊎_elim (λ here. let n = map_from (Page.IndexPage level) nodes (Page.IndexPage l m) here in
    record {
      rows = rows;
      nodes = nodes;
      more = more;
      levels = levels;
      depth = sym (ap level_of n.2);
      on = subst (Contains nodes) (same_node level l n.0 m n.2) n.1;
      all = all;
    })
    (λ there. sub seen (rows_of nodes) more leaves levels.2 (λ p j. all p (Contains-append_right at (level_pages more leaves) p j)) l m there)
    (Contains-append_cases at (level_pages more leaves) (Page.IndexPage l m) i)

-- the nodes of a level round one of them
pub record Round (nodes : List Index) (m : Index) : Type 0 where
  pub front : List Index
  pub back : List Index
  pub is : nodes ≡ front ++ m ∷ back

round : (nodes : List Index) (m : Index) → Contains nodes m → Round nodes m
round nodes m i = let at = part nodes m i in record { front = at.front; back = at.back; is = at.is }

rows_round : (front : List Index) (m : Index) (back : List Index) (f : List (Row ℕ)) (row : Row ℕ) (b : List (Row ℕ)) → m.rows ≡ f ++ row ∷ b
    → rows_of (front ++ m ∷ back) ≡ (rows_of front ++ f) ++ row ∷ (b ++ rows_of back)
rows_round front m back f row b is =
    flat_map-append (λ (n : Index). n.rows) front (m ∷ back)
    ∙ (ap (λ (rs : List (Row ℕ)). rows_of front ++ (rs ++ rows_of back)) is
    ∙ (ap (λ (rs : List (Row ℕ)). rows_of front ++ rs) (append_assoc f (row ∷ b) (rows_of back))
    ∙ sym (append_assoc (rows_of front) f (row ∷ (b ++ rows_of back)))))

-- the page under a parent fits it, between the rows of the whole level
pub record Under (seen : List Page) (leaves : List Leaf) (k : ℕ) (a : Parent seen k) : Type 0 where
  pub at : Sub seen leaves a.level a.node
  pub round : Round at.nodes a.node
  pub p : Page
  pub fits : Fits seen (length at.more) a.row (first_key (a.back ++ rows_of round.back)) (last_or 0 (rows_of round.front ++ a.front)) p
  pub depth : level_of p + 1 ≡ a.level

-- the tree's levels have the pages seen
abbrev pub IsAll : List Page → List (List Index) → List Leaf → Type 0
IsAll seen above leaves = (p : Page) → Contains (level_pages above leaves) p → Contains seen p

abbrev pub AreAll : List Page → List (List Index) → List Leaf → Type 0
AreAll seen above leaves = (p : Page) → Contains seen p → Contains (level_pages above leaves) p

pub under : (seen : List Page) (rows : List (Row ℕ)) (above : List (List Index)) (leaves : List Leaf) → AreLevels rows above leaves → IsAll seen above leaves → AreAll seen above leaves
    → (k : ℕ) (a : Parent seen k) → Under seen leaves k a
under seen rows above leaves levels on all k a =
    let at = sub seen rows above leaves levels on a.level a.node (all (Page.IndexPage a.level a.node) a.on) in
    let r = round at.nodes a.node at.on in
    let rows_at = ap (λ (ns : List Index). rows_of ns) r.is ∙ rows_round r.front a.node r.back a.front a.row a.back a.rows in
    let below = subst (λ rs. AreLevels rs at.more leaves) rows_at at.levels.2 in
    let level = suc (length at.more) in
    let c = child_fits seen (rows_of r.front ++ a.front) a.row (a.back ++ rows_of r.back) at.more leaves below
    (λ p i. at.all p (Contains-append_right (map (Page.IndexPage level) at.nodes) (level_pages at.more leaves) p i)) in
    let depth = at.depth in
    let low = c.1.at in
    record { at = at; round = r; p = c.0; fits = c.1; depth = omega (arith, depth, low) }

-- a last key is below what all keys are below
pub last_below : (low : ℕ) (high : Option ℕ) (keys : List ℕ) → Rises low high keys → (key : ℕ) → last_in keys ≡ Some key → IsBelow key high
last_below low high [] r key is = absurd (cc)
last_below low high (k ∷ []) r key is = let e : k ≡ key = cc in subst (λ n. IsBelow n high) e r.1
last_below low high (k ∷ (next ∷ keys)) r key is = last_below (suc k) high (next ∷ keys) r.2 key is

pub below_is : (key w : ℕ) (high : Option ℕ) → high ≡ Some w → IsBelow key high → key < w
below_is key w None e h = absurd (cc)
below_is key w (Some v) e h = let is : v ≡ w = cc in omega (arith, is, h)

first_append : (xs ys : List (Row ℕ)) (w : ℕ) → first_key xs ≡ Some w → first_key (xs ++ ys) ≡ Some w
first_append [] ys w e = absurd (cc)
first_append (x ∷ xs) ys w e = e

none_append : (xs ys : List (Row ℕ)) → first_key xs ≡ None → first_key (xs ++ ys) ≡ first_key ys
none_append [] ys e = refl
none_append (x ∷ xs) ys e = absurd (cc)

-- the node after one of a level is the one that it names as next
next_node : {V : Type 0} (before : ℕ) (front : List (Node V)) (m : Node V) (back : List (Node V)) → IsLinked before (front ++ m ∷ back) → m.next ≡ first_page back
next_node before [] m back linked = linked.1
next_node before (f ∷ front) m back linked = next_node f.page front m back linked.2

-- High of a row is the key of the row after it on its level
pub high_row : (seen : List Page) → AreWellFormed seen → (level : ℕ) (m : Index) (f back : List Index) (b : List (Row ℕ)) → IsLinked 0 (f ++ m ∷ back)
    → ((n : Index) → Contains back n → Contains seen (Page.IndexPage level n)) → (w : ℕ) → High seen m b w → first_key (b ++ rows_of back) ≡ Some w
high_row seen pages level m f back b linked on w (High.Within is) = first_append b (rows_of back) w is
high_row seen pages level m f [] b linked on w (High.Beyond l n none i page first) =
    absurd (pages.nonzero (Page.IndexPage l n) i (page ∙ next_node 0 f m [] linked))
high_row seen pages level m f (x ∷ back) b linked on w (High.Beyond l n none i page first) =
    let same = pages.once (Page.IndexPage level x) (Page.IndexPage l n) (on x (cons_here x back)) i (sym (next_node 0 f m (x ∷ back) linked) ∙ sym page) in
    let node = same_node level l x n same in
    none_append b (rows_of (x ∷ back)) none ∙ first_append x.rows (rows_of back) w (ap (λ (y : Index). first_key y.rows) node ∙ first)

last_append : (prior : ℕ) (xs ys : List (Row ℕ)) → last_or prior (xs ++ ys) ≡ last_or (last_or prior xs) ys
last_append prior [] ys = refl
last_append prior (x ∷ xs) ys = last_append x.value xs ys

last_some : (prior : ℕ) (xs : List (Row ℕ)) → 0 < length xs → last_or prior xs ≡ last_value xs
last_some prior [] some = absurd (omega (arith, some))
last_some prior (x ∷ []) some = refl
last_some prior (x ∷ (y ∷ xs)) some = last_some x.value (y ∷ xs) (omega arith)

last_rows : (prior : ℕ) (xs : List (Row ℕ)) (row : Row ℕ) (rest : List (Row ℕ)) → xs ≡ row ∷ rest → last_or prior xs ≡ last_value xs
last_rows prior [] row rest e = absurd (cc)
last_rows prior (x ∷ xs) row rest e = last_some prior (x ∷ xs) (omega arith)

-- the node before one of a level is the one that it names as prev; the last row before it is that node's
pub data Earlier (before prior : ℕ) (front : List Index) (m : Index) : Type 0 where
  First : front ≡ [] → m.prev ≡ before → Earlier before prior front m
  After : (n : Index) → Contains front n → n.page ≡ m.prev → last_or prior (rows_of front) ≡ last_value n.rows → Earlier before prior front m

earlier_step : (before prior : ℕ) (f : Index) (front : List Index) (m : Index) (row : Row ℕ) (rest : List (Row ℕ)) → f.rows ≡ row ∷ rest
    → Earlier f.page (last_or prior f.rows) front m → Earlier before prior (f ∷ front) m
earlier_step before prior f front m row rest some (Earlier.First is prev) =
    Earlier.After f (cons_here f front) (sym prev)
    (last_append prior f.rows (rows_of front) ∙ (ap (λ (ns : List Index). last_or (last_or prior f.rows) (rows_of ns)) is ∙ last_rows prior f.rows row rest some))
earlier_step before prior f front m row rest some (Earlier.After n i page last) =
    Earlier.After n (cons_there f front n i) page (last_append prior f.rows (rows_of front) ∙ last)

pub earlier : (seen : List Page) → AreWellFormed seen → (level before prior : ℕ) (front : List Index) (m : Index) (back : List Index) → IsLinked before (front ++ m ∷ back)
    → AreSeen seen level front → Earlier before prior front m
earlier seen pages level before prior [] m back linked on = Earlier.First refl linked.0
earlier seen pages level before prior (f ∷ front) m back linked on =
    let some = some_rows f.rows (pages.some_row level f (on f (cons_here f front))) in
    earlier_step before prior f front m some.0 some.1 some.2
    (earlier seen pages level f.page (last_or prior f.rows) front m back linked.2 (λ n i. on n (cons_there f front n i)))

no_rows : (xs : List (Row ℕ)) → length xs ≡ 0 → xs ≡ []
no_rows [] e = refl
no_rows (x ∷ xs) e = absurd (omega (arith, e))

pub before_first : (seen : List Page) → AreWellFormed seen → (level : ℕ) (m : Index) (front : List Index) → AreSeen seen level front → Earlier 0 0 front m
    → (f : List (Row ℕ)) (w : ℕ) → Before seen m f w → last_or 0 (rows_of front ++ f) ≡ w
before_first seen pages level m front on e f w (Before.Within some is) =
    last_append 0 (rows_of front) f ∙ (last_some (last_or 0 (rows_of front)) f some ∙ is)
before_first seen pages level m front on (Earlier.First none prev) f w (Before.Leftmost empty no_prev is) =
    ap (λ (ns : List Index). last_or 0 (rows_of ns ++ f)) none ∙ (ap (last_or 0) (no_rows f empty) ∙ sym is)
before_first seen pages level m front on (Earlier.After n i page last) f w (Before.Leftmost empty no_prev is) =
    absurd (pages.nonzero (Page.IndexPage level n) (on n i) (page ∙ no_prev))
before_first seen pages level m front on (Earlier.First none prev) f w (Before.Beyond l n empty some i page is) = absurd (some prev)
before_first seen pages level m front on (Earlier.After x j at last) f w (Before.Beyond l n empty some i page is) =
    let same = pages.once (Page.IndexPage level x) (Page.IndexPage l n) (on x j) i (at ∙ sym page) in
    let node = same_node level l x n same in
    last_append 0 (rows_of front) f ∙ (ap (last_or (last_or 0 (rows_of front))) (no_rows f empty)
    ∙ (last ∙ (ap (λ (y : Index). last_value y.rows) node ∙ is)))

-- neighbours on a level name each other
next_in : {V : Type 0} (before : ℕ) (nodes : List (Node V)) → IsLinked before nodes → (n : Node V) → Contains nodes n → n.next ≢ 0
    → (m : Node V) × Contains nodes m × (m.page ≡ n.next) × (m.prev ≡ n.page)
next_in before [] linked n i some = absurd (nothing_there n i)
next_in {V = V} before (x ∷ []) linked n i some =
    ⊎_elim (λ e. absurd (some (sym (ap (λ (y : Node V). y.next) e) ∙ linked.1))) (λ none. absurd (nothing_there n none)) (cons_cases x [] n i)
next_in {V = V} before (x ∷ (y ∷ nodes)) linked n i some =
    ⊎_elim (λ e. (y, cons_there x (y ∷ nodes) y (cons_here y nodes), sym linked.1 ∙ ap (λ (z : Node V). z.next) e, linked.2.0 ∙ ap (λ (z : Node V). z.page) e))
    (λ t. let r = next_in x.page (y ∷ nodes) linked.2 n t some in (r.0, cons_there x (y ∷ nodes) r.0 r.1, r.2, r.3)) (cons_cases x (y ∷ nodes) n i)

prev_in : {V : Type 0} (before : ℕ) (nodes : List (Node V)) → IsLinked before nodes → (n : Node V) → Contains nodes n
    → ((n.prev ≡ before) × (n.page ≡ first_page nodes)) ⊎ ((m : Node V) × Contains nodes m × (m.page ≡ n.prev) × (m.next ≡ n.page))
prev_in before [] linked n i = absurd (nothing_there n i)
prev_in {V = V} before (x ∷ nodes) linked n i =
    ⊎_elim (λ e. inl (sym (ap (λ (z : Node V). z.prev) e) ∙ linked.0, sym (ap (λ (z : Node V). z.page) e)))
    (λ t. inr (⊎_elim (λ first. (x, cons_here x nodes, sym first.0, linked.1 ∙ sym first.1))
    (λ m. (m.0, cons_there x nodes m.0 m.1, m.2, m.3)) (prev_in x.page nodes linked.2 n t))) (cons_cases x nodes n i)

-- the pages beside a page on its level
pub record Beside (all : List Page) (p : Page) : Type 0 where
  pub next : next_of p ≢ 0 → (q : Page) × Contains all q × (page_of q ≡ next_of p) × (prev_of q ≡ page_of p)
  pub prev : prev_of p ≢ 0 → (q : Page) × Contains all q × (page_of q ≡ prev_of p) × (next_of q ≡ page_of p)

beside_node : {V : Type 0} (at : Node V → Page) → ((n : Node V) → page_of (at n) ≡ n.page) → ((n : Node V) → prev_of (at n) ≡ n.prev)
    → ((n : Node V) → next_of (at n) ≡ n.next) → (nodes : List (Node V)) → IsLinked 0 nodes → (n : Node V) → Contains nodes n → Beside (map at nodes) (at n)
beside_node at page prev next nodes linked n i = record {
  next = λ some. let m = next_in 0 nodes linked n i (λ none. some (next n ∙ none)) in
      (at m.0, map_in at nodes m.0 m.1, page m.0 ∙ (m.2 ∙ sym (next n)), prev m.0 ∙ (m.3 ∙ sym (page n)));
  prev = λ some. ⊎_elim (λ first. absurd (some (prev n ∙ first.0)))
      (λ m. (at m.0, map_in at nodes m.0 m.1, page m.0 ∙ (m.2 ∙ sym (prev n)), next m.0 ∙ (m.3 ∙ sym (page n)))) (prev_in 0 nodes linked n i);
}

beside_more : (all more : List Page) (p : Page) → ((q : Page) → Contains all q → Contains more q) → Beside all p → Beside more p
beside_more all more p in_more b = record {
  next = λ some. let q = b.next some in (q.0, in_more q.0 q.1, q.2, q.3);
  prev = λ some. let q = b.prev some in (q.0, in_more q.0 q.1, q.2, q.3);
}

pub beside : (rows : List (Row ℕ)) (above : List (List Index)) (leaves : List Leaf) → AreLevels rows above leaves → (p : Page) → Contains (level_pages above leaves) p
    → Beside (level_pages above leaves) p
beside rows [] leaves levels p i =
    let n = map_from Page.LeafPage leaves p i in
    subst (Beside (map Page.LeafPage leaves)) n.2 (beside_node Page.LeafPage (λ m. refl) (λ m. refl) (λ m. refl) leaves levels.1 n.0 n.1)
beside rows (nodes ∷ more) leaves levels p i =
    let level = suc (length more) in
    let at = map (Page.IndexPage level) nodes in
    let rest = level_pages more leaves in
    ⊎_elim (λ here. let n = map_from (Page.IndexPage level) nodes p here in
    beside_more at (at ++ rest) p (λ q j. Contains-append_left at rest q j)
    (subst (Beside at) n.2 (beside_node (Page.IndexPage level) (λ m. refl) (λ m. refl) (λ m. refl) nodes levels.1 n.0 n.1)))
    (λ there. beside_more rest (at ++ rest) p (λ q j. Contains-append_right at rest q j) (beside (rows_of nodes) more leaves levels.2 p there))
    (Contains-append_cases at rest p i)

-- each page is named by the rows above the levels, or has a parent on them
pub named : (seen : List Page) (rows : List (Row ℕ)) (above : List (List Index)) (leaves : List Leaf) → AreLevels rows above leaves → IsAll seen above leaves
    → (p : Page) → Contains (level_pages above leaves) p → Contains (values_of rows) (page_of p) ⊎ Parent seen (page_of p)
named seen rows [] leaves levels on p i =
    let n = map_from Page.LeafPage leaves p i in
    let same = under_pages IsUnder (λ r end m is. is.page) rows leaves levels.0 in
    inl (subst (λ q. Contains (values_of rows) (page_of q)) n.2 (subst (λ ks. Contains ks n.0.page) (sym same) (map_in (λ (m : Leaf). m.page) leaves n.0 n.1)))
named seen rows (nodes ∷ more) leaves levels on p i =
    let level = suc (length more) in
    let at = map (Page.IndexPage level) nodes in
    let rest = level_pages more leaves in
    ⊎_elim (λ here. let n = map_from (Page.IndexPage level) nodes p here in
    let same = under_pages IsIndexUnder (λ r end m is. is.under.page) rows nodes levels.0 in
    inl (subst (λ q. Contains (values_of rows) (page_of q)) n.2 (subst (λ ks. Contains ks n.0.page) (sym same) (map_in (λ (m : Index). m.page) nodes n.0 n.1))))
    (λ there. ⊎_elim (λ up. inr (parent_in seen level nodes
    (λ n j. on (Page.IndexPage level n) (Contains-append_left at rest (Page.IndexPage level n) (map_in (Page.IndexPage level) nodes n j))) (page_of p) up).0)
    (λ a. inr a) (named seen (rows_of nodes) more leaves levels.2 (λ q j. on q (Contains-append_right at rest q j)) p there))
    (Contains-append_cases at rest p i)

-- a page is named at one place
pub apart : (xs ys : List ℕ) → AreDistinct (xs ++ ys) → (x : ℕ) → Contains xs x → Contains ys x → ⊥
apart [] ys d x i j = nothing_there x i
apart (z ∷ xs) ys d x i j = ⊎_elim (λ e. d.0 (subst (Contains (xs ++ ys)) (sym e) (Contains-append_right xs ys x j))) (λ t. apart xs ys d.1 x t j) (cons_cases z xs x i)

pub value_at : (front : List (Row ℕ)) (row : Row ℕ) (back : List (Row ℕ)) → Contains (values_of (front ++ row ∷ back)) row.value
value_at [] row back = cons_here row.value (values_of back)
value_at (f ∷ front) row back = cons_there f.value (values_of (front ++ row ∷ back)) row.value (value_at front row back)

pub place_once : (front : List (Row ℕ)) (row : Row ℕ) (back : List (Row ℕ)) (front' : List (Row ℕ)) (row' : Row ℕ) (back' : List (Row ℕ))
    → front ++ row ∷ back ≡ front' ++ row' ∷ back' → AreDistinct (values_of (front ++ row ∷ back)) → row.value ≡ row'.value → length front ≡ length front'
place_once [] row back [] row' back' e d same = refl
place_once [] row back (f' ∷ front') row' back' e d same =
    let tail : back ≡ front' ++ row' ∷ back' = cc in
    absurd (d.0 (subst (Contains (values_of back)) (sym same) (subst (λ (rs : List (Row ℕ)). Contains (values_of rs) row'.value) (sym tail) (value_at front' row' back'))))
place_once (f ∷ front) row back [] row' back' e d same =
    let head : f ≡ row' = cc in
    absurd (d.0 (subst (Contains (values_of (front ++ row ∷ back))) (same ∙ ap (λ (r : Row ℕ). r.value) (sym head)) (value_at front row back)))
place_once (f ∷ front) row back (f' ∷ front') row' back' e d same =
    let tail : front ++ row ∷ back ≡ front' ++ row' ∷ back' = cc in
    ap (λ n. suc n) (place_once front row back front' row' back' tail d.1 same)
