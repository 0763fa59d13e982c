-- What the rules of trees know of a clustered table, whose pages seen are given as nodes.
use Rattle.std.specs.Prelude.{◌≡◌, ◌≢◌, ℕ, ◌<◌, ◌≤◌, Option, Some, None, List, [], ◌∷◌, ◌++◌, length, Contains}
use Rattle.spec_check.specs.declared.report.CheckError.{CheckError}
use Rattle.spec_tree.specs.declared.known.PageHead.{PageHead}
use Rattle.spec_tree.specs.declared.known.Link.{Link}
use Rattle.spec_tree.specs.declared.known.IndexRow.{IndexRow}
use Rattle.spec_tree.specs.Known.{Known}
use Rattle.spec_tree.specs.Trees.{IsTreeError}
use Rattle.spec_levels.specs.Levels.{Row, Index, first_key, Rises}
use Rattle.spec_levels.specs.Pages.{Page, page_of, prev_of, next_of, level_of, keys_on}

-- what the page test and the rule of the order of keys ask of each page by itself; and no page stands twice
pub record AreWellFormed (seen : List Page) : Type 0 where
  pub once : (page other : Page) → Contains seen page → Contains seen other → page_of page ≡ page_of other → page ≡ other
  pub nonzero : (page : Page) → Contains seen page → page_of page ≢ 0
  pub levels : (level : ℕ) (node : Index) → Contains seen (Page.IndexPage level node) → (0 < level) × (level ≤ 15)
  pub some_row : (level : ℕ) (node : Index) → Contains seen (Page.IndexPage level node) → node.rows ≢ []
  pub rises : (page : Page) → Contains seen page → Rises 0 None (keys_on page)

-- an index row that names page child, and the rows before and behind it on its page
pub record Parent (seen : List Page) (child : ℕ) : Type 0 where
  pub level : ℕ
  pub node : Index
  pub front : List (Row ℕ)
  pub row : Row ℕ
  pub back : List (Row ℕ)
  pub on : Contains seen (Page.IndexPage level node)
  pub rows : node.rows ≡ front ++ row ∷ back
  pub names : row.value ≡ child

-- the first and the last of keys
abbrev pub first_in : List ℕ → Option ℕ
first_in [] = None
first_in (key ∷ keys) = Some key

abbrev pub last_in : List ℕ → Option ℕ
last_in [] = None
last_in (key ∷ []) = Some key
last_in (key ∷ (next ∷ keys)) = last_in (next ∷ keys)

-- the page that the last of these rows names; 0 where there is no row
abbrev pub last_value : List (Row ℕ) → ℕ
last_value [] = 0
last_value (row ∷ []) = row.value
last_value (row ∷ (next ∷ rows)) = last_value (next ∷ rows)

-- the page that the last row of an index page names; 0 for a leaf
abbrev pub last_child_on : Page → ℕ
last_child_on (Page.LeafPage node) = 0
last_child_on (Page.IndexPage level node) = last_value node.rows

-- what a page says of itself, which page it names as next, and what an index row says with its page and the rows
-- beside it
abbrev pub head_on : ℕ → Page → PageHead
head_on object page = record {
  object = record { 0 = object };
  page = record { 0 = page_of page };
  level = level_of page;
  prev = record { 0 = prev_of page };
  next = record { 0 = next_of page };
  first = first_in (keys_on page);
  last = last_in (keys_on page);
  last_child = record { 0 = last_child_on page };
}

abbrev pub link_on : ℕ → Page → Link
link_on object page = record { object = record { 0 = object }; page = record { 0 = page_of page }; next = record { 0 = next_of page } }

abbrev pub row_on : ℕ → ℕ → Index → List (Row ℕ) → Row ℕ → List (Row ℕ) → IndexRow
row_on object level node front row back = record {
  object = record { 0 = object };
  parent = record { 0 = node.page };
  slot = length front;
  level = level;
  key = row.key;
  next_key = first_key back;
  child = record { 0 = row.value };
  before = record { 0 = last_value front };
  parent_prev = record { 0 = node.prev };
  parent_next = record { 0 = node.next };
}

abbrev pub parent_row : (object : ℕ) (seen : List Page) (child : ℕ) → Parent seen child → IndexRow
parent_row object seen child parent = row_on object parent.level parent.node parent.front parent.row parent.back

-- what is known where the object is the one clustered table, and these are the pages seen of it
abbrev pub known_of : ℕ → ℕ → List Page → Known
known_of object root seen = record {
  roots = λ table. table ≡ record { object = record { 0 = object }; page = record { 0 = root } };
  pages = λ head. (page : Page) × Contains seen page × (head ≡ head_on object page);
  links = λ link. (page : Page) × Contains seen page × (link ≡ link_on object page);
  rows = λ row. (parent : Parent seen row.child.0) × (row ≡ parent_row object seen row.child.0 parent);
}

-- no error of the rules of trees stands at the object
abbrev pub HasNoTreeErrors : Known → ℕ → Type 0
HasNoTreeErrors known object = (error : CheckError) → error.object ≡ object → IsTreeError known error → ⊥
