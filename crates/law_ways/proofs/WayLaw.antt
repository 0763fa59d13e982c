-- The rows of a tree, and the way to one of them.
use Rattle.std.proofs.Common.{ℕ, List, [], ◌∷◌, Option, None, refl, arith, ◌∙◌}
use Rattle.spec_levels.specs.Levels.{Row, Node, Tree, rows_of, tree_pages, IsTree, Payload}
use Rattle.spec_ways.specs.Insert.{root_rows}
use Rattle.law_ways.proofs.Bounds.{Within}
use Rattle.law_ways.proofs.Bridge.{fits_from, once}
use Rattle.law_ways.proofs.Counts.{tree_counts}
use Rattle.law_ways.proofs.Fits.{Fits}
use Rattle.law_ways.proofs.PathLaws.{leads}
use Rattle.law_ways.proofs.RowsLead.{found_is}
use Rattle.law_ways.proofs.PutLaws.{level_within}
use Rattle.law_ways.proofs.WayReads.{way_is_read}
use Rattle.law_ways.proofs.WayAsks.{pages_asked, way_is_shown}
use Rattle.law_ways.specs.WayLaws.{WaysLead, WaysAreRead}

-- the rows of the leaves rise
fits_within : (low : ℕ) (high : Option ℕ) (rows : List (Row ℕ)) (above : List (List (Node ℕ))) (leaves : List (Node Payload)) → Within low high rows → Fits high rows above leaves
    → Within low high (rows_of leaves)
fits_within low high rows [] leaves w f = level_within low high rows leaves w f.0
fits_within low high rows (nodes ∷ more) leaves w f = fits_within low high (rows_of nodes) more leaves (level_within low high rows nodes w f.0) f.3

pub contents_within : (root : ℕ) (tree : Tree) → IsTree root tree → Within 0 None (rows_of tree.leaves)
contents_within root tree is = fits_within 0 None (root_rows root) tree.above tree.leaves (omega arith, tt, tt) (fits_from (root_rows root) tree.above tree.leaves is.levels)

pub ways_lead : WaysLead
ways_lead root k tree is =
    let h = leads k 0 (root_rows root) tree.above tree.leaves (omega arith) refl (omega arith, tt, tt) (fits_from (root_rows root) tree.above tree.leaves is.levels)
    (λ p. let a = tree_counts tree p in let b = once p (tree_pages tree) is.distinct in omega (arith, a, b)) in
    record { way = h.way; is = h.is; long = h.long; holds = h.holds; found = found_is h.key h.bound k h.way.leaf.rows h.within ∙ h.holds }

pub ways_are_read : WaysAreRead
ways_are_read root k tree image way is s e = record {
  read = way_is_read 15 k image tree.above tree.leaves is.height s root way e;
  asked = pages_asked 15 k image tree.above tree.leaves is.height s root way e;
  shown = (way_is_shown k image tree.above tree.leaves s root way e).1;
}
