-- The walk through the leaves of a tree that the pages show.
use Rattle.std.proofs.Common.{◌≡◌, ℕ, zero, suc, ◌≤◌, Bool, List, [], ◌∷◌, ◌++◌, length, Some, None, refl, sym, ap, ◌∙◌, arith}
use Rattle.std.specs.Prelude.{if◌then◌else◌}
use Rattle.std.proofs.lemmas.Bool.{ne_eqb}
use Rattle.spec_levels.specs.Levels.{Payload, Row, Node, rows_of, pages_of, first_page, IsLinked, tree_pages}
use Rattle.spec_ways.specs.Insert.{root_rows}
use Rattle.spec_ways.specs.Rows.{first_value}
use Rattle.spec_levels.specs.Pages.{LeafPage}
use Rattle.spec_ways.specs.Pages.{Pages, ShowsLevel, Shows}
use Rattle.spec_ways.specs.Walk.{leaf_below, no_leaf, first_leaf, leaves_behind, leaves_from}
use Rattle.law_ways.proofs.Bridge.{fits_from}
use Rattle.law_ways.proofs.Counts.{tree_counts, none_zero}
use Rattle.law_ways.proofs.Fits.{StartsAt, Fits, count, all_pages}
use Rattle.law_ways.proofs.GrowLaws.{rows_start, count_append}
use Rattle.law_ways.proofs.LeftEdge.{first_is}
use Rattle.law_ways.specs.WayLaws.{LeavesAreWalked}

record HasLeaf (m : ℕ) (image : Pages) (page : ℕ) (leaves : List (Node Payload)) : Type 0 where
  leaf : Node Payload
  first : first_leaf m image page ≡ Some leaf
  at : leaf.page ≡ first_page leaves

at_leaf : (m : ℕ) (image : Pages) (page : ℕ) (n : Node Payload) → image page ≡ LeafPage n → first_leaf m image page ≡ Some n
at_leaf zero image page n e = ap (leaf_below no_leaf) e
at_leaf (suc m) image page n e = ap (leaf_below (first_leaf m image)) e

has_leaf : (m low : ℕ) (image : Pages) (rows : List (Row ℕ)) (above : List (List (Node ℕ))) (leaves : List (Node Payload)) → length above ≤ m → StartsAt low rows → Fits None rows above leaves
    → Shows image above leaves → HasLeaf m image (first_value rows) leaves
has_leaf m low image [] above leaves long at f s = absurd at
has_leaf m low image (r ∷ rest) [] [] long at f s = absurd f.0
has_leaf m low image (r ∷ rest) [] (n ∷ ns) long at f s = record { leaf = n; first = at_leaf m image r.value n (ap image f.0.0 ∙ s.0); at = refl }
has_leaf zero low image (r ∷ rest) (nodes ∷ more) leaves long at f s = absurd (omega (arith, long))
has_leaf (suc m) low image (r ∷ rest) ([] ∷ more) leaves long at f s = absurd f.0
has_leaf (suc m) low image (r ∷ rest) ((n ∷ ns) ∷ more) leaves long at f s =
    let h = has_leaf m r.key image (n.rows ++ rows_of ns) more leaves (omega (arith, long)) (rows_start r.key None (r ∷ rest) (n ∷ ns) refl f.0 f.1) f.3 s.1 in
    record {
      leaf = h.leaf;
      first = ap (leaf_below (first_leaf m image)) (ap image f.0.0 ∙ s.0.0) ∙ ap (first_leaf m image) (sym (first_is r.key n.rows (rows_of ns) f.1.0)) ∙ h.first;
      at = h.at;
    }

walked : (limit before : ℕ) (image : Pages) (leaves : List (Node Payload)) → length leaves ≤ limit → IsLinked before leaves → count 0 (pages_of leaves) ≡ 0 → ShowsLevel LeafPage image leaves
    → leaves_from limit image (first_page leaves) ≡ leaves
walked zero before image [] long links none s = refl
walked (suc limit) before image [] long links none s = refl
walked zero before image (n ∷ ns) long links none s = absurd (omega (arith, long))
walked (suc limit) before image (n ∷ ns) long links none s =
    ap (λ (b : Bool). if b then [] else leaves_behind (leaves_from limit image) (image n.page)) (ne_eqb n.page 0 (λ zero_is. let e = rw zero_is at none in omega (arith, e)))
    ∙ ap (leaves_behind (leaves_from limit image)) s.0 ∙ ap (λ (p : ℕ). n ∷ leaves_from limit image p) links.1
    ∙ ap (λ l. n ∷ l) (walked limit n.page image ns (omega (arith, long)) links.2 (omega (arith, none)) s.1)

-- the lowest level
leaves_of : (rows : List (Row ℕ)) (above : List (List (Node ℕ))) (leaves : List (Node Payload)) (image : Pages) → Fits None rows above leaves → Shows image above leaves
    → count 0 (all_pages above leaves) ≡ 0
    → IsLinked 0 leaves × (count 0 (pages_of leaves) ≡ 0) × ShowsLevel LeafPage image leaves
leaves_of rows [] leaves image f s none = (f.1, none, s)
leaves_of rows (nodes ∷ more) leaves image f s none =
    leaves_of (rows_of nodes) more leaves image f.3 s.1 (let e = count_append 0 (pages_of nodes) (all_pages more leaves) in omega (arith, e, none))

pub leaves_are_walked : LeavesAreWalked
leaves_are_walked root limit tree image is s long =
    let f = fits_from (root_rows root) tree.above tree.leaves is.levels in
    let h = has_leaf 15 0 image (root_rows root) tree.above tree.leaves is.height refl f s in
    let l = leaves_of (root_rows root) tree.above tree.leaves image f s (tree_counts tree 0 ∙ none_zero (tree_pages tree) is.nonzero) in
    record { leaf = h.leaf; first = h.first; leaves = ap (leaves_from limit image) h.at ∙ walked limit 0 image tree.leaves long l.0 l.1 l.2 }
