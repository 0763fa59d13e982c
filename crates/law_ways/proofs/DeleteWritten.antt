-- What a delete writes, the left edge found by first rows.
use Rattle.std.proofs.Common.{◌≡◌, ◌↔◌, ℕ, List, [], ◌∷◌, ◌++◌, length, Contains, Option, Some, None, refl, sym, ap, ◌∙◌, subst, arith}
use Rattle.spec_levels.specs.Levels.{Payload, Node, Tree, tree_pages, AreDistinct}
use Rattle.spec_ways.specs.Insert.{root_rows}
use Rattle.spec_ways.specs.Delete.{deleted}
use Rattle.spec_ways.specs.Ways.{Way}
use Rattle.spec_ways.specs.Sinks.{Sink, sink, sink_of, freed_below_root}
use Rattle.spec_levels.specs.Pages.{Page}
use Rattle.spec_ways.specs.Pages.{Pages, ShowsLevel, Shows}
use Rattle.spec_ways.specs.DeleteWrites.{left_edge, edge_key, edge_written, losses_written, sink_written, page_as_root, delete_written, collapsed_children, delete_frees}
use Rattle.law_ways.proofs.Bridge.{fits_from, once}
use Rattle.law_ways.proofs.ByKey.{sink_by_key}
use Rattle.law_ways.proofs.ByNext.{losses_by_next, delete_by_next, children_by_next, frees_by_next}
use Rattle.law_ways.proofs.Counts.{tree_counts, none_zero}
use Rattle.law_ways.proofs.DeleteLaw.{tree_sinks, IsWrittenByNext, written_by_next}
use Rattle.law_ways.proofs.EdgeNear.{edge_clear}
use Rattle.law_ways.proofs.EdgeWrites.{IsSinking, IsClear, losses_same, sinks_so}
use Rattle.law_ways.proofs.LeftEdge.{left_edge_is_next}
use Rattle.law_ways.proofs.LocalLaws.{page_kept, alike_down}
use Rattle.law_ways.proofs.WayReads.{some_is}
use Rattle.law_ways.specs.DeleteLaws.{edge_nexts, IsDeleteWritten, DeleteIsWritten}

abbrev AreSame : Pages → Pages → Type 0
AreSame a b = (p : ℕ) → a p ≡ b p

shows_level : {V : Type 0} (kind : Node V → Page) (a b : Pages) (nodes : List (Node V)) → AreSame a b → ShowsLevel kind a nodes → ShowsLevel kind b nodes
shows_level kind a b [] same s = s
shows_level kind a b (n ∷ ns) same s = (sym (same n.page) ∙ s.0, shows_level kind a b ns same s.1)

shows_same : (a b : Pages) (above : List (List (Node ℕ))) (leaves : List (Node Payload)) → AreSame a b → Shows a above leaves → Shows b above leaves
shows_same a b [] leaves same s = shows_level _ a b leaves same s
shows_same a b (nodes ∷ more) leaves same s = (shows_level _ a b nodes same s.0, shows_same a b more leaves same s.1)

-- a sink and its way, along which the left edge is that of the nexts and apart from the page above it
record IsEdged (way : Way) (c : Sink) (image : Pages) : Type 0 where
  sinking : IsSinking c.above
  clear : IsClear way.above c.above
  edge : left_edge image way.above c.above ≡ edge_nexts None way.above c.above

sunk_same : (way : Way) (c : Sink) (image : Pages) → IsEdged way c image → AreSame (losses_by_next None way.above c.above way.leaf c.leaf image) (sink_written way c image)
sunk_same way c image h p =
    losses_same way.above c.above way.leaf c.leaf image p h.sinking h.clear
    ∙ sym (ap (λ ps. edge_written (edge_key c.above) ps (losses_written way.above c.above way.leaf c.leaf image) p) h.edge)

record AreWrittenSame (root : ℕ) (way : Way) (c : Sink) (image : Pages) (o : Option ℕ) : Type 0 where
  pages : AreSame (delete_by_next root way c o image) (delete_written root way c o image)
  children : children_by_next root way c image o ≡ collapsed_children root way c image o

written_same : (root : ℕ) (way : Way) (c : Sink) (image : Pages) (o : Option ℕ) → IsEdged way c image → AreWrittenSame root way c image o
written_same root way c image None h =
    let a = losses_by_next None way.above c.above way.leaf c.leaf image in
    let b = sink_written way c image in
    let same = sunk_same way c image h in
    let d = alike_down (length way.above) a b root (same root) (λ p has. same p) in
    record { pages = λ p. page_kept root _ _ a b (ap (page_as_root root) d.page) p (same p); children = d.children }
written_same root way c image (Some key) h = record { pages = λ p. refl; children = refl }

written_is : (root : ℕ) (way : Way) (c : Sink) (image : Pages) (tree t : Tree) → IsEdged way c image → IsWrittenByNext root way c image tree t → IsDeleteWritten root way c image tree t
written_is root way c image tree t h w =
    let d = written_same root way c image c.gone_key h in
    let frees : frees_by_next root way c image ≡ delete_frees root way c image = ap (λ l. freed_below_root way.above c.above way.leaf c.leaf ++ l) d.children in
    record {
      shows = shows_same (delete_by_next root way c c.gone_key image) (delete_written root way c c.gone_key image) t.above t.leaves d.pages w.shows;
      same = λ p none. sym (d.pages p) ∙ w.same p none;
      pages_are = λ p. subst (λ (l : List ℕ). Contains (tree_pages tree) p ↔ Contains (tree_pages t ++ l) p) frees (w.pages_are p);
      apart = subst (λ (l : List ℕ). AreDistinct (tree_pages t ++ l)) frees w.apart;
    }

pub delete_is_written : DeleteIsWritten
delete_is_written root k tree image way is shows along =
    let d = tree_sinks root k tree is in
    let slots = subst (λ (w : Way). sink 0 k w.above w.leaf ≡ sink_by_key 0 k w.above w.leaf) (some_is d.way way (sym d.is ∙ along)) (d.slots 0 refl) in
    let e = edge_clear k 0 (root_rows root) tree.above tree.leaves (omega arith) refl (omega arith, tt, tt) (fits_from (root_rows root) tree.above tree.leaves is.levels)
    (λ p. let a = tree_counts tree p in let b = once p (tree_pages tree) is.distinct in omega (arith, a, b)) (tree_counts tree 0 ∙ none_zero (tree_pages tree) is.nonzero) in
    let clear = subst (λ (w : Way). IsClear w.above (sink_by_key 0 k w.above w.leaf).above) (some_is e.way way (sym e.is ∙ along)) (e.clear 0) in
    written_is root way (sink_of k way) image tree (deleted root k tree) (record {
      sinking = subst (λ (c : Sink). IsSinking c.above) (sym slots) (sinks_so 0 k way.above way.leaf).0;
      clear = subst (λ (c : Sink). IsClear way.above c.above) (sym slots) clear;
      edge = left_edge_is_next root k tree image way is shows along;
    }) (written_by_next root k tree image way is shows along)
