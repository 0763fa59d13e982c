-- The facts of one page, and what a list of facts says.
use Rattle.std.specs.Prelude.{◌≡◌, ℕ, Bool, List, [], ◌∷◌, map, Contains, if◌then◌else◌}
use Rattle.std.specs.List.{range_with_len}
use Rattle.spec_file.specs.declared.geometry.Geometry.{Geometry}
use Rattle.spec_file.specs.Image.{Image, page}
use Rattle.spec_file.specs.CatalogRows.{CatalogRow}
use Rattle.spec_chain.specs.Chains.{IsObject}
use Rattle.spec_tree.specs.declared.known.Root.{Root}
use Rattle.spec_tree.specs.declared.known.PageHead.{PageHead}
use Rattle.spec_tree.specs.declared.known.Link.{Link}
use Rattle.spec_tree.specs.Known.{Known}
use Rattle.spec_tables.specs.Heads.{head_of, link_of, index_row, index_rows}
use Rattle.spec_tables.specs.Seen.{IsSeen, rows_on}
use Rattle.ck_error.specs.Gathered.{Gathers}
use Rattle.ck_facts.specs.declared.facts.Fact.{Fact}
use Rattle.ck_facts.specs.declared.facts.Fact.TheVariants.{Seen, Child}

-- the facts of page p of object o: what it says of itself, and its index rows in the order of their slots
abbrev pub page_facts : ℕ → ℕ → List ℕ → List Fact
page_facts o p bytes =
    Seen (head_of o p bytes) ∷ map (λ i. Child (index_row o p bytes i)) (range_with_len 0 (index_rows bytes))

-- a fact of a page of the image that is seen
pub record IsFactOf (g : Geometry) (image : Image) (fact : Fact) : Type 0 where
  pub row : CatalogRow
  pub number : ℕ
  pub object : IsObject image row
  pub seen : IsSeen g image row number
  pub is : Contains (page_facts row.id number (page image number)) fact

-- the facts of all pages of the image that are seen, and no others, in whatever order, each once or more often
abbrev pub AreFactsOf : Geometry → Image → List Fact → Type 0
AreFactsOf g image facts = Gathers facts (IsFactOf g image)

-- a page that isn't seen has none
abbrev pub facts_on : Bool → ℕ → ℕ → List ℕ → List Fact
facts_on seen o p bytes = if seen then page_facts o p bytes else []

abbrev pub rows_seen : Bool → List ℕ → ℕ
rows_seen seen bytes = if seen then rows_on bytes else 0

-- the link is that of a page seen by the facts
pub record IsLinkIn (facts : List Fact) (l : Link) : Type 0 where
  pub head : PageHead
  pub known : Contains facts (Seen head)
  pub is : l ≡ link_of head

-- what is known by a list of facts, whatever their order
abbrev pub known_of : List Root → List Fact → Known
known_of roots facts = record {
  roots = Contains roots;
  pages = λ s. Contains facts (Seen s);
  links = IsLinkIn facts;
  rows = λ c. Contains facts (Child c);
}
