-- Where no error stands, the rows of a level name pages that fit them: from the levels above downwards.
use Rattle.std.proofs.Common.{◌≡◌, ℕ, suc, ◌+◌, ◌<◌, ◌≤◌, Option, Some, None, List, [], ◌∷◌, ◌++◌, Contains, refl, sym, ◌∙◌, arith}
use Rattle.std.proofs.lemmas.List.{length-append, append_assoc}
use Rattle.spec_check.proofs.Members.{cons_here, cons_there}
use Rattle.spec_levels.specs.Levels.{Row, Node, Index, IsBelow, Rises, first_key, keys_of, rows_of}
use Rattle.spec_levels.specs.Pages.{Page, page_of, prev_of, level_of, keys_on}
use Rattle.law_levels.specs.Known.{AreWellFormed, Parent, last_value, first_in}
use Rattle.law_levels.proofs.Clean.{High, Before, FirstFits, IsClean}
use Rattle.law_levels.proofs.Lists.{last_push, rises_between, some_rows}

-- the page fits the row that names it, and the page that stands before it
pub record Fits (seen : List Page) (level : ℕ) (row : Row ℕ) (end : Option ℕ) (prior : ℕ) (p : Page) : Type 0 where
  pub on : Contains seen p
  pub page : page_of p ≡ row.value
  pub at : level_of p ≡ level
  pub first : FirstFits row.key p
  pub keys : Rises row.key end (keys_on p)
  pub prev : prev_of p ≡ prior

-- the first key of rows, or else that of what follows them
abbrev pub first_or : List (Row ℕ) → Option ℕ → Option ℕ
first_or [] end = end
first_or (row ∷ rows) end = Some row.key

abbrev pub last_or : ℕ → List (Row ℕ) → ℕ
last_or prior [] = prior
last_or prior (row ∷ rows) = last_or row.value rows

-- each row names a page that fits
abbrev pub AllFit : List Page → ℕ → ℕ → Option ℕ → List (Row ℕ) → Type 0
AllFit seen level prior end [] = Unit {0}
AllFit seen level prior end (row ∷ rows) = ((p : Page) × Fits seen level row (first_or rows end) prior p) × AllFit seen level row.value end rows

pub fit_append : (seen : List Page) (level prior : ℕ) (end : Option ℕ) (xs ys : List (Row ℕ)) → AllFit seen level prior (first_or ys end) xs
    → AllFit seen level (last_or prior xs) end ys → AllFit seen level prior end (xs ++ ys)
fit_append seen level prior end [] ys a b = b
fit_append seen level prior end (x ∷ []) ys a b = (a.0, b)
fit_append seen level prior end (x ∷ (z ∷ xs)) ys a b = (a.0, fit_append seen level x.value end (z ∷ xs) ys a.1 b)

last_or_is : (prior : ℕ) (row : Row ℕ) (rows : List (Row ℕ)) → last_or prior (row ∷ rows) ≡ last_value (row ∷ rows)
last_or_is prior row [] = refl
last_or_is prior row (next ∷ rows) = last_or_is row.value next rows

first_is : {V : Type 0} (rows : List (Row V)) → first_in (keys_of rows) ≡ first_key rows
first_is [] = refl
first_is (row ∷ rows) = refl

some_le : (key low : ℕ) → Some key ≡ Some low → low ≤ key
some_le key low e = let is : key ≡ low = cc in omega (arith, is)

pub first_fits : (low : ℕ) (p : Page) → FirstFits low p → (key : ℕ) → first_in (keys_on p) ≡ Some key → low ≤ key
first_fits low (Page.LeafPage n) fits key is = fits key is
first_fits low (Page.IndexPage l n) fits key is = some_le key low (sym is ∙ (first_is n.rows ∙ fits))

abbrev pub parent_at : (seen : List Page) (level k : ℕ) (node : Index) (front : List (Row ℕ)) (row : Row ℕ) (back : List (Row ℕ)) → Contains seen (Page.IndexPage level node)
    → node.rows ≡ front ++ row ∷ back → row.value ≡ k → Parent seen k
parent_at seen level k node front row back on rows names =
    record { level = level; node = node; front = front; row = row; back = back; on = on; rows = rows; names = names }

suc_same : (a b : ℕ) → a + 1 ≡ suc b → a ≡ b
suc_same a b e = omega (arith, e)

below_some : (high : Option ℕ) (key : ℕ) → ((w : ℕ) → high ≡ Some w → key < w) → IsBelow key high
below_some None key h = tt
below_some (Some w) key h = h w refl

-- High of a row is the key after it
high_is : (seen : List Page) (node : Index) (back : List (Row ℕ)) (end : Option ℕ) → ((w : ℕ) → end ≡ Some w → High seen node [] w) → (w : ℕ)
    → first_or back end ≡ Some w → High seen node back w
high_is seen node [] end ends w is = ends w is
high_is seen node (row ∷ back) end ends w is = High.Within is

-- a row of an index page that is seen names a page that fits it
row_fits : (root : ℕ) (seen : List Page) → AreWellFormed seen → IsClean root seen → (level : ℕ) (node : Index) (front : List (Row ℕ)) (row : Row ℕ) (back : List (Row ℕ))
    (prior : ℕ) (end : Option ℕ) → Contains seen (Page.IndexPage (suc level) node) → node.rows ≡ front ++ row ∷ back → Before seen node front prior
    → ((w : ℕ) → first_or back end ≡ Some w → High seen node back w) → (p : Page) × Fits seen level row (first_or back end) prior p
row_fits root seen pages clean level node front row back prior end on rows before high =
    let found = clean.child_seen row.value (parent_at seen (suc level) row.value node front row back on rows refl) in
    let p = found.0 in
    let a = parent_at seen (suc level) (page_of p) node front row back on rows (sym found.2) in
    let fits = clean.first p found.1 a in (
      p,
      record {
        on = found.1;
        page = found.2;
        at = suc_same (level_of p) level (clean.level p found.1 a);
        first = fits;
        keys = rises_between row.key (first_or back end) (keys_on p) (pages.rises p found.1) (first_fits row.key p fits)
            (λ key last. below_some (first_or back end) key (λ w is. clean.high p found.1 a key w last (high w is)));
        prev = clean.prev p found.1 a prior before;
      },
    )

node_rows : (root : ℕ) (seen : List Page) → AreWellFormed seen → IsClean root seen → (level : ℕ) (node : Index) (front rest : List (Row ℕ)) (prior : ℕ) (end : Option ℕ)
    → Contains seen (Page.IndexPage (suc level) node) → node.rows ≡ front ++ rest → Before seen node front prior
    → ((w : ℕ) → end ≡ Some w → High seen node [] w) → AllFit seen level prior end rest
node_rows root seen pages clean level node front [] prior end on rows before ends = tt
node_rows root seen pages clean level node front (row ∷ back) prior end on rows before ends = (
  row_fits root seen pages clean level node front row back prior end on rows before (high_is seen node back end ends),
  node_rows root seen pages clean level node (front ++ row ∷ []) back row.value end on (rows ∙ sym (append_assoc front (row ∷ []) back))
      (Before.Within (omega (arith, length-append front (row ∷ []))) (last_push front row)) ends,
)

-- nodes that follow page before, each naming the one before it as prev and the one after it, where there is
-- one, as next
abbrev pub NextIs : {V : Type 0} → Node V → List (Node V) → Type 0
NextIs node [] = Unit {0}
NextIs node (next ∷ nodes) = node.next ≡ next.page

abbrev pub IsChained : {V : Type 0} → ℕ → List (Node V) → Type 0
IsChained before [] = Unit {0}
IsChained before (node ∷ nodes) = (node.prev ≡ before) × NextIs node nodes × IsChained node.page nodes

-- Before of the first row of the first node
abbrev pub IsStart : List Page → ℕ → List Index → Type 0
IsStart seen prior [] = Unit {0}
IsStart seen prior (node ∷ nodes) = Before seen node [] prior

abbrev pub AreSeen : List Page → ℕ → List Index → Type 0
AreSeen seen level nodes = (n : Index) → Contains nodes n → Contains seen (Page.IndexPage level n)

first_front : (rows : List (Row ℕ)) (row : Row ℕ) (rest ys : List (Row ℕ)) → rows ≡ row ∷ rest → first_key (rows ++ ys) ≡ first_key rows
first_front [] row rest ys e = absurd (cc)
first_front (r ∷ rows) row rest ys e = refl

last_front : (prior : ℕ) (rows : List (Row ℕ)) (row : Row ℕ) (rest : List (Row ℕ)) → rows ≡ row ∷ rest → last_value rows ≡ last_or prior rows
last_front prior [] row rest e = absurd (cc)
last_front prior (r ∷ rows) row rest e = sym (last_or_is prior r rows)

first_none : (rows : List (Row ℕ)) → first_or rows None ≡ first_key rows
first_none [] = refl
first_none (row ∷ rows) = refl

beyond : (seen : List Page) → AreWellFormed seen → (level : ℕ) (node : Index) (nodes : List Index) → AreSeen seen level (node ∷ nodes)
    → NextIs node nodes → (w : ℕ) → first_key (rows_of nodes) ≡ Some w → High seen node [] w
beyond seen pages level node [] are next w is = absurd (cc)
beyond seen pages level node (m ∷ nodes) are next w is =
    let on = are m (cons_there node (m ∷ nodes) m (cons_here m nodes)) in
    let some = some_rows m.rows (pages.some_row level m on) in
    High.Beyond level m refl on (sym next) (sym (first_front m.rows some.0 some.1 (rows_of nodes) some.2) ∙ is)

starts : (seen : List Page) → AreWellFormed seen → (level prior : ℕ) (node : Index) (nodes : List Index) → Contains seen (Page.IndexPage level node)
    → IsChained node.page nodes → IsStart seen (last_or prior node.rows) nodes
starts seen pages level prior node [] on chained = tt
starts seen pages level prior node (m ∷ nodes) on chained =
    let some = some_rows node.rows (pages.some_row level node on) in
    Before.Beyond level node refl (λ none. pages.nonzero (Page.IndexPage level node) on (sym chained.0 ∙ none)) on (sym chained.0)
    (last_front prior node.rows some.0 some.1 some.2)

-- so the rows of a whole level name pages that fit
pub level_fits : (root : ℕ) (seen : List Page) → AreWellFormed seen → IsClean root seen → (level before prior : ℕ) (nodes : List Index) → AreSeen seen (suc level) nodes
    → IsChained before nodes → IsStart seen prior nodes → AllFit seen level prior None (rows_of nodes)
level_fits root seen pages clean level before prior [] are chained start = tt
level_fits root seen pages clean level before prior (node ∷ nodes) are chained start =
    let on = are node (cons_here node nodes) in
    fit_append seen level prior None node.rows (rows_of nodes)
    (node_rows root seen pages clean level node [] node.rows prior (first_or (rows_of nodes) None) on refl start
    (λ w is. beyond seen pages (suc level) node nodes are chained.1 w (sym (first_none (rows_of nodes)) ∙ is)))
    (level_fits root seen pages clean level node.page (last_or prior node.rows) nodes (λ n i. are n (cons_there node nodes n i)) chained.2
    (starts seen pages (suc level) prior node nodes on chained.2))

pub start_of : (seen : List Page) (nodes : List Index) → IsChained 0 nodes → IsStart seen 0 nodes
start_of seen [] chained = tt
start_of seen (node ∷ nodes) chained = Before.Leftmost refl chained.0 refl
