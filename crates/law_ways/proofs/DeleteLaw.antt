-- A tree without one of its rows is a tree.
use Rattle.std.proofs.Common.{◌≡◌, ◌↔◌, ℕ, ◌+◌, ◌≤◌, Option, Some, None, List, ◌++◌, Contains, refl, sym, ap, ◌∙◌, subst, arith}
use Rattle.spec_levels.specs.Levels.{Row, Node, Tree, IsTree, AreDistinct, rows_of, tree_pages}
use Rattle.spec_ways.specs.Rows.{without, value_at}
use Rattle.spec_ways.specs.Delete.{shrunk, lowered, deleted}
use Rattle.law_ways.proofs.ByNext.{delete_by_next, children_by_next, frees_by_next}
use Rattle.spec_ways.specs.Insert.{root_rows}
use Rattle.spec_ways.specs.Pages.{Pages, Shows}
use Rattle.spec_ways.specs.Sinks.{Loss, Sink, sink_of, AreSunk, freed_below_root}
use Rattle.law_ways.proofs.Bridge.{fits_from, levels_from, counted, contains_from, once, distinct_from}
use Rattle.law_ways.proofs.EndShows.{delete_shows, sink_top}
use Rattle.law_ways.proofs.Fits.{count}
use Rattle.law_ways.proofs.GrowLaws.{count_append}
use Rattle.law_ways.proofs.Counts.{tree_counts, none_zero, no_count}
use Rattle.law_ways.proofs.RowValues.{without_value, without_others, without_none}
use Rattle.law_ways.proofs.WayLaw.{contents_within}
use Rattle.law_ways.proofs.SinkLaws.{SunkCase, Sinks, sinks}
use Rattle.law_ways.specs.DeleteLaws.{IsSunkTree, DeleteKeeps, DeleteTakes, DeleteSinks}
use Rattle.law_ways.proofs.ShrinkLaws as shrink
use Rattle.law_ways.proofs.ByKey.{sink_by_key}
use Rattle.law_ways.proofs.WayReads.{some_is}
use Rattle.spec_ways.specs.Ways.{Way, way_to}

pub delete_keeps : DeleteKeeps
delete_keeps root k tree is =
    let t = deleted root k tree in
    let h = shrink.deleted_is root k tree (fits_from (root_rows root) tree.above tree.leaves is.levels) in
    let before = tree_counts tree in
    let after = tree_counts t in
    let fewer : (p : ℕ) → count p (tree_pages t) ≤ count p (tree_pages tree) = λ p. let a = h.fewer p in let b = before p in let c = after p in omega (arith, a, b, c) in
    let there : (p : ℕ) → Contains (tree_pages t) p → Contains (tree_pages tree) p = λ p has.
    contains_from p (tree_pages tree) (let some = counted p (tree_pages t) has in let a = fewer p in omega (arith, a, some)) in
    record {
      is_tree = record {
        levels = levels_from (root_rows root) t.above t.leaves h.fits;
        distinct = distinct_from (tree_pages t) (λ p. let a = fewer p in let b = once p (tree_pages tree) is.distinct in omega (arith, a, b));
        nonzero = λ has. is.nonzero (there 0 has);
        height = let a = h.height in let b = is.height in omega (arith, a, b);
      };
      contents = h.contents;
      fewer = there;
    }

pub delete_takes : DeleteTakes
delete_takes root k tree is =
    let t = deleted root k tree in
    let left : rows_of t.leaves ≡ without k (rows_of tree.leaves) = (delete_keeps root k tree is).contents in
    record {
      none = ap (value_at k) left ∙ without_value 0 None k (rows_of tree.leaves) (contents_within root tree is);
      others = λ other apart. ap (value_at other) left ∙ without_others other k (rows_of tree.leaves) apart;
      same = λ none. left ∙ without_none k (rows_of tree.leaves) none;
    }

plain : (key : ℕ) (rows : List (Row ℕ)) (ns : List (Node ℕ)) (losses : List (Loss ℕ)) (above above' : List (List (Node ℕ))) (o : Option ℕ) → SunkCase key rows ns losses above above' o
    → AreSunk None ns losses above above'
plain key rows ns losses above above' None h = h
plain key rows ns losses above above' (Some g) h = h.1

-- the sink of the tree's way
pub tree_sinks : (root k : ℕ) (tree : Tree) → IsTree root tree → Sinks k (root_rows root) tree.above tree.leaves (shrunk k (root_rows root) tree.above tree.leaves)
tree_sinks root k tree is =
    sinks k 0 (root_rows root) tree.above tree.leaves (omega arith) refl (omega arith, tt, tt) (fits_from (root_rows root) tree.above tree.leaves is.levels)
    (λ p. let a = tree_counts tree p in let c = once p (tree_pages tree) is.distinct in omega (arith, a, c))

pub delete_sinks : DeleteSinks
delete_sinks root k tree way is along =
    let b = shrunk k (root_rows root) tree.above tree.leaves in
    let h = tree_sinks root k tree is in
    subst (λ (w : Way). IsSunkTree root w (sink_of k w) tree (deleted root k tree)) (some_is h.way way (sym h.is ∙ along))
    (subst (λ (c : Sink). IsSunkTree root h.way c tree (deleted root k tree)) (sym (h.slots 0 refl))
    (record {
      levels = b;
      above_losses = plain 0 (root_rows root) h.way.above (sink_by_key 0 k h.way.above h.way.leaf).above tree.above b.above b.gone_key h.above_losses;
      leaf_loss = h.leaf_loss;
      ends = ap (lowered root b) h.gone_is;
    }))

-- what is written and freed, the left edge told by nexts
pub record IsWrittenByNext (root : ℕ) (way : Way) (c : Sink) (image : Pages) (tree t : Tree) : Type 0 where
  pub shows : Shows (delete_by_next root way c c.gone_key image) t.above t.leaves
  pub same : (p : ℕ) → (Contains (tree_pages tree) p → ⊥) → delete_by_next root way c c.gone_key image p ≡ image p
  pub pages_are : (p : ℕ) → Contains (tree_pages tree) p ↔ Contains (tree_pages t ++ frees_by_next root way c image) p
  pub apart : AreDistinct (tree_pages t ++ frees_by_next root way c image)

written : (root : ℕ) (way : Way) (c : Sink) (image : Pages) (tree t : Tree) (o : Option ℕ) → o ≡ c.gone_key → IsTree root tree → Shows (delete_by_next root way c o image) t.above t.leaves
    → ((p : ℕ) → (Contains (tree_pages tree) p → ⊥) → delete_by_next root way c o image p ≡ image p)
    → ((p : ℕ) → count p (tree_pages t) + count p (freed_below_root way.above c.above way.leaf c.leaf ++ children_by_next root way c image o) ≡ count p (tree_pages tree))
    → IsWrittenByNext root way c image tree t
written root way c image tree t o e is shows same counts =
    let goes = frees_by_next root way c image in
    let exact : (p : ℕ) → count p (tree_pages t ++ goes) ≡ count p (tree_pages tree) = λ p.
    let i = counts p in let m = count_append p (tree_pages t) goes in
    let n = ap (λ o. count p (freed_below_root way.above c.above way.leaf c.leaf ++ children_by_next root way c image o)) e in omega (arith, i, m, n) in
    record {
      shows = subst (λ o. Shows (delete_by_next root way c o image) t.above t.leaves) e shows;
      same = λ p none. subst (λ o. delete_by_next root way c o image p ≡ image p) e (same p none);
      pages_are = λ p. let e = exact p in (
        λ has. contains_from p (tree_pages t ++ goes) (let some = counted p (tree_pages tree) has in omega (arith, e, some)),
        λ has. contains_from p (tree_pages tree) (let some = counted p (tree_pages t ++ goes) has in omega (arith, e, some)),
      );
      apart = distinct_from (tree_pages t ++ goes) (λ p. let e = exact p in let f = once p (tree_pages tree) is.distinct in omega (arith, e, f));
    }

pub written_by_next : (root k : ℕ) (tree : Tree) (image : Pages) (way : Way) → IsTree root tree → Shows image tree.above tree.leaves → way_to root tree k ≡ Some way
    → IsWrittenByNext root way (sink_of k way) image tree (deleted root k tree)
written_by_next root k tree image way is s along =
    let b = shrunk k (root_rows root) tree.above tree.leaves in
    let f = fits_from (root_rows root) tree.above tree.leaves is.levels in
    let h = tree_sinks root k tree is in
    let c = sink_by_key 0 k h.way.above h.way.leaf in
    let t = deleted root k tree in
    let r = delete_shows root k h.way c b tree image b.gone_key f (plain 0 (root_rows root) h.way.above c.above tree.above b.above b.gone_key h.above_losses) h.leaf_loss
    (shrink.shrunk_is k 0 (root_rows root) tree.above tree.leaves refl (omega arith, tt, tt) f) s
    (λ p. let a = tree_counts tree p in let c = once p (tree_pages tree) is.distinct in omega (arith, a, c)) (tree_counts tree 0 ∙ none_zero (tree_pages tree) is.nonzero)
    (sink_top k h.way.above h.way.leaf ∙ sym h.gone_is) in
    subst (λ (w : Way). IsWrittenByNext root w (sink_of k w) image tree t) (some_is h.way way (sym h.is ∙ along))
    (subst (λ (c : Sink). IsWrittenByNext root h.way c image tree t) (sym (h.slots 0 refl))
    (written root h.way c image tree t b.gone_key h.gone_is is r.shows (λ p none. r.same p (tree_counts tree p ∙ no_count (tree_pages tree) p none))
    (λ p. let i = r.exact p in let j = tree_counts t p in let l = tree_counts tree p in omega (arith, i, j, l))))
