-- The way that is read from the pages is the tree's.
use Rattle.std.proofs.Common.{◌≡◌, ℕ, zero, suc, ◌≤◌, List, [], ◌∷◌, length, Option, Some, None, unwrap_or, refl, sym, ap, ◌∙◌, inl, inr, arith}
use Rattle.std.proofs.lemmas.Bool.{cases_eq, eq-eqb, ne_eqb}
use Rattle.spec_levels.specs.Levels.{Node, Payload}
use Rattle.spec_levels.specs.Pages.{Page, LeafPage, IndexPage}
use Rattle.spec_ways.specs.Pages.{Pages, ShowsLevel, Shows, way_by, no_way, read_way}
use Rattle.spec_ways.specs.Ways.{Way, child_toward, node_at, through, ending_at, through_child, way_from}

pub some_is : {A : Type 0} (a b : A) → Some a ≡ Some b → a ≡ b
some_is a b e = ap (λ o. unwrap_or o a) e

pub found_shows : {V : Type 0} (shape : Node V → Page) (image : Pages) (p : ℕ) (nodes : List (Node V)) (n : Node V) → ShowsLevel shape image nodes → node_at p nodes ≡ Some n → image p ≡ shape n
found_shows shape image p [] n s e = absurd (cc)
found_shows shape image p (m ∷ ns) n s e = elim (cases_eq m.page p) [
  | inl same ↦
      let here : node_at p (m ∷ ns) ≡ Some m = (let f = eq-eqb m.page p same in rw f refl) in
      ap image (sym same) ∙ s.0 ∙ ap shape (some_is m n (sym here ∙ e))
  | inr other ↦
      let there : node_at p (m ∷ ns) ≡ node_at p ns = (let f = ne_eqb m.page p other in rw f refl) in
      found_shows shape image p ns n s.1 (sym there ∙ e)
]

leaf_way : (go : ℕ → Option Way) (k : ℕ) (o : Option (Node Payload)) (page : Page) (way : Way) → ((n : Node Payload) → o ≡ Some n → page ≡ LeafPage n) → ending_at o ≡ Some way
    → way_by go k page ≡ Some way
leaf_way go k None page way shows e = absurd (cc)
leaf_way go k (Some n) page way shows e = ap (way_by go k) (shows n refl) ∙ e

index_way : (go go' : ℕ → Option Way) (k level : ℕ) (o : Option (Node ℕ)) (page : Page) (way : Way) → ((n : Node ℕ) → o ≡ Some n → page ≡ IndexPage level n)
    → ((p : ℕ) (w : Way) → go p ≡ Some w → go' p ≡ Some w) → through_child go k o ≡ Some way → way_by go' k page ≡ Some way
index_way go go' k level None page way shows same e = absurd (cc)
index_way go go' k level (Some n) page way shows same e = ap (way_by go' k) (shows n refl) ∙ by_rest (go (child_toward k n.rows)) refl e
  where
    by_rest : (o : Option Way) → go (child_toward k n.rows) ≡ o → through n o ≡ Some way → through n (go' (child_toward k n.rows)) ≡ Some way
    by_rest None is h = absurd (cc)
    by_rest (Some w) is h = ap (through n) (same (child_toward k n.rows) w is) ∙ h

pub way_is_read : (m k : ℕ) (image : Pages) (above : List (List (Node ℕ))) (leaves : List (Node Payload)) → length above ≤ m → Shows image above leaves → (p : ℕ) (way : Way)
    → way_from k above leaves p ≡ Some way
    → read_way m k image p ≡ Some way
way_is_read zero k image [] leaves long s p way e = leaf_way no_way k (node_at p leaves) (image p) way (λ n is. found_shows LeafPage image p leaves n s is) e
way_is_read (suc m) k image [] leaves long s p way e = leaf_way (read_way m k image) k (node_at p leaves) (image p) way (λ n is. found_shows LeafPage image p leaves n s is) e
way_is_read zero k image (nodes ∷ more) leaves long s p way e = absurd (omega (arith, long))
way_is_read (suc m) k image (nodes ∷ more) leaves long s p way e =
    index_way (way_from k more leaves) (read_way m k image) k (suc (length more)) (node_at p nodes) (image p) way
    (λ n is. found_shows (IndexPage (suc (length more))) image p nodes n s.0 is)
    (λ q w h. way_is_read m k image more leaves (omega (arith, long)) s.1 q w h) e
