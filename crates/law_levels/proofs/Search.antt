-- Pages and parents are found among the pages seen.
use Rattle.std.proofs.Common.{◌≡◌, ◌⊎◌, ℕ, List, [], ◌∷◌, Contains, sym, ap, ◌∙◌, subst, inl, inr, ⊎_elim}
use Rattle.std.proofs.lemmas.Bool.{cases_eq}
use Rattle.spec_check.proofs.Members.{nothing_there, cons_cases, cons_here, cons_there}
use Rattle.spec_levels.specs.Levels.{Row, Index}
use Rattle.spec_levels.specs.Pages.{Page, page_of}
use Rattle.law_levels.specs.Known.{Parent}
use Rattle.law_levels.proofs.Lists.{part, part_in}

pub found_by : (f : Page → ℕ) (seen : List Page) (k : ℕ) → ((p : Page) × Contains seen p × (f p ≡ k)) ⊎ ((p : Page) → Contains seen p → f p ≡ k → ⊥)
found_by f [] k = inr (λ p i e. nothing_there p i)
found_by f (x ∷ seen) k = ⊎_elim (λ e. inl (x, cons_here x seen, e))
    (λ no. ⊎_elim (λ there. inl (there.0, cons_there x seen there.0 there.1, there.2))
    (λ none. inr (λ p i e. ⊎_elim (λ here. no (ap f here ∙ e)) (λ t. none p t e) (cons_cases x seen p i)))
    (found_by f seen k)) (cases_eq (f x) k)

pub page_found : (seen : List Page) (k : ℕ) → ((p : Page) × Contains seen p × (page_of p ≡ k)) ⊎ ((p : Page) → Contains seen p → page_of p ≡ k → ⊥)
page_found = found_by page_of

row_found : (rows : List (Row ℕ)) (k : ℕ) → ((r : Row ℕ) × Contains rows r × (r.value ≡ k)) ⊎ ((r : Row ℕ) → Contains rows r → r.value ≡ k → ⊥)
row_found [] k = inr (λ r i e. nothing_there r i)
row_found (x ∷ rows) k = ⊎_elim (λ e. inl (x, cons_here x rows, e))
    (λ no. ⊎_elim (λ there. inl (there.0, cons_there x rows there.0 there.1, there.2))
    (λ none. inr (λ r i e. ⊎_elim (λ here. no (ap (λ (y : Row ℕ). y.value) here ∙ e)) (λ t. none r t e) (cons_cases x rows r i)))
    (row_found rows k)) (cases_eq x.value k)

-- an index row of a list of pages that names page k
pub record RowOf (pages : List Page) (k : ℕ) : Type 0 where
  pub level : ℕ
  pub node : Index
  pub row : Row ℕ
  pub on : Contains pages (Page.IndexPage level node)
  pub in_node : Contains node.rows row
  pub names : row.value ≡ k

abbrev NoRow : List Page → ℕ → Type 0
NoRow pages k = RowOf pages k → ⊥

there_row : (x : Page) (pages : List Page) (k : ℕ) → RowOf pages k → RowOf (x ∷ pages) k
there_row x pages k r = record { level = r.level; node = r.node; row = r.row; on = cons_there x pages (Page.IndexPage r.level r.node) r.on; in_node = r.in_node; names = r.names }

abbrev node_or : Index → Page → Index
node_or other (Page.LeafPage n) = other
node_or other (Page.IndexPage l n) = n

first_row : (x : Page) (k : ℕ) → ((l : ℕ) (n : Index) → x ≡ Page.IndexPage l n → (r : Row ℕ) → Contains n.rows r → r.value ≡ k → ⊥) ⊎ RowOf (x ∷ []) k
first_row (Page.LeafPage n) k = inl (λ l m e r i is. absurd (cc))
first_row (Page.IndexPage l n) k = ⊎_elim
    (λ r. inr (record { level = l; node = n; row = r.0; on = cons_here (Page.IndexPage l n) []; in_node = r.1; names = r.2 }))
    (λ none. inl (λ h m e r i is. let same : n ≡ m = ap (node_or n) e in none r (subst (λ (y : Index). Contains y.rows r) (sym same) i) is))
    (row_found n.rows k)

pub row_search : (pages : List Page) (k : ℕ) → RowOf pages k ⊎ NoRow pages k
row_search [] k = inr (λ r. nothing_there (Page.IndexPage r.level r.node) r.on)
row_search (x ∷ pages) k = ⊎_elim (λ there. inl (there_row x pages k there))
    (λ none. ⊎_elim
    (λ no. inr (λ r. ⊎_elim (λ here. no r.level r.node here r.row r.in_node r.names)
    (λ t. none (record { level = r.level; node = r.node; row = r.row; on = t; in_node = r.in_node; names = r.names })) (cons_cases x pages (Page.IndexPage r.level r.node) r.on)))
    (λ here. inl (record {
      level = here.level;
      node = here.node;
      row = here.row;
      on = ⊎_elim (λ e. subst (Contains (x ∷ pages)) e (cons_here x pages)) (λ t. absurd (nothing_there (Page.IndexPage here.level here.node) t))
          (cons_cases x [] (Page.IndexPage here.level here.node) here.on);
      in_node = here.in_node;
      names = here.names;
    })) (first_row x k)) (row_search pages k)

pub row_parent : (seen : List Page) (k : ℕ) → RowOf seen k → Parent seen k
row_parent seen k r = let at = part r.node.rows r.row r.in_node in
    record { level = r.level; node = r.node; front = at.front; row = r.row; back = at.back; on = r.on; rows = at.is; names = r.names }

pub parent_found : (seen : List Page) (k : ℕ) → Parent seen k ⊎ (Parent seen k → ⊥)
parent_found seen k = ⊎_elim (λ r. inl (row_parent seen k r))
    (λ none. inr (λ a. none (record {
      level = a.level;
      node = a.node;
      row = a.row;
      on = a.on;
      in_node = part_in a.node.rows a.front a.row a.back a.rows;
      names = a.names;
    }))) (row_search seen k)
