-- What a delete writes where the left edge is told by the nexts of pages that go: in a tree it is the one found by first rows.
use Rattle.std.proofs.Common.{ℕ, suc, List, [], ◌∷◌, ◌++◌, length, Option, Some, None, ◌==◌}
use Rattle.std.specs.Prelude.{if◌then◌else◌}
use Rattle.spec_levels.specs.Levels.{Payload, Node, Index, Leaf}
use Rattle.spec_ways.specs.Ways.{Way}
use Rattle.spec_ways.specs.Sinks.{Loss, Untouched, Keeps, Goes, Sink, edge_below, freed_below_root}
use Rattle.spec_levels.specs.Pages.{Page, LeafPage, IndexPage}
use Rattle.spec_ways.specs.Pages.{Pages, with_page}
use Rattle.spec_ways.specs.InsertWrites.{page_with_prev}
use Rattle.spec_ways.specs.DeleteWrites.{page_with_edge, next_written, only_children, collapse_written}

abbrev pub behind_by_next : ℕ → ℕ → Option ℕ → Pages → Pages
behind_by_next p q edge image = if p == 0 then image else with_page p (page_with_prev q (page_with_edge edge (image p))) image

abbrev pub loss_by_next : {V : Type 0} → (Node V → Page) → Node V → Loss V → Option ℕ → Pages → Pages
loss_by_next kind n Untouched edge image = image
loss_by_next kind n (Keeps rows below) edge image = with_page n.page (kind (record { page = n.page; prev = n.prev; next = n.next; rows = rows })) image
loss_by_next kind n Goes edge image = next_written n.prev n.next (behind_by_next n.next n.prev edge image)

abbrev pub losses_by_next : Option ℕ → List Index → List (Loss ℕ) → Leaf → Loss Payload → Pages → Pages
losses_by_next edge [] losses leaf loss image = loss_by_next LeafPage leaf loss None image
losses_by_next edge (n ∷ ns) [] leaf loss image = image
losses_by_next edge (n ∷ ns) (l ∷ losses) leaf loss image =
    loss_by_next (IndexPage (suc (length ns))) n l edge (losses_by_next (edge_below edge l) ns losses leaf loss image)

abbrev pub delete_by_next : ℕ → Way → Sink → Option ℕ → Pages → Pages
delete_by_next root way c None image = collapse_written (length way.above) root (losses_by_next None way.above c.above way.leaf c.leaf image)
delete_by_next root way c (Some g) image = with_page root (LeafPage (record { page = root; prev = 0; next = 0; rows = [] })) image

abbrev pub children_by_next : ℕ → Way → Sink → Pages → Option ℕ → List ℕ
children_by_next root way c image None = only_children (length way.above) (losses_by_next None way.above c.above way.leaf c.leaf image) root
children_by_next root way c image (Some g) = []

abbrev pub frees_by_next : ℕ → Way → Sink → Pages → List ℕ
frees_by_next root way c image = freed_below_root way.above c.above way.leaf c.leaf ++ children_by_next root way c image c.gone_key
