-- The rows of each page have room, before and after.
use Rattle.std.proofs.Common.{◌≡◌, ℕ, ◌==◌, Bool, true, false, List, [], ◌∷◌, length, Option, Some, None, refl}
use Rattle.std.specs.Prelude.{if◌then◌else◌}
use Rattle.spec_levels.specs.Levels.{Row, Node, Tree, rows_of, Payload}
use Rattle.spec_ways.specs.Delete.{kept_page, before_taken, take_row, leaf_without, index_without, with_first_keys, with_left_edges, Shrunk, below_loss, without_separator, shrunk, collapsed, lowered, deleted}
use Rattle.spec_ways.specs.Insert.{linked, Cut, Cuts, cut_page, before_put, put_row, Grown, first_fresh, with_separator, grown, renumbered, top_renumbered, raised, root_rows, inserted}
use Rattle.spec_ways.specs.Rows.{with_first_key, is_below_first, with_row, without}
use Rattle.law_ways.specs.RoomLaws.{Room, Passes, HaveRoom, LevelsHaveRoom, CutsToRoom, InsertHasRoom, DeleteHasRoom}

module _ {V : Type 0} (P : Room V) where
  linked_room : (b : ℕ) (nodes : List (Node V)) → HaveRoom P nodes → HaveRoom P (linked b nodes)
  linked_room b [] h = h
  linked_room b (n ∷ ns) h = (h.0, linked_room n.page ns h.1)

  renumbered_room : (ps : List ℕ) (nodes : List (Node V)) → HaveRoom P nodes → HaveRoom P (renumbered ps nodes)
  renumbered_room [] nodes h = h
  renumbered_room (p ∷ ps) [] h = h
  renumbered_room (p ∷ ps) (n ∷ ns) h = (h.0, renumbered_room ps ns h.1)

  cut_page_room : (cut : Cut V) (x : Row V) → CutsToRoom P cut x → (new : ℕ) (n : Node V) (after : List (Node V)) (o : Option ℕ) → cut (with_row x n.rows) ≡ o → P n.rows → HaveRoom P after
      → HaveRoom P (cut_page o new n (with_row x n.rows) after).nodes
  cut_page_room cut x room new n after None e p h = (room.whole n.rows p e, h)
  cut_page_room cut x room new n after (Some m) e p h = (room.left n.rows m p e, (room.right n.rows m p e, h))

  put_room : (cut : Cut V) (x : Row V) → CutsToRoom P cut x → (new : ℕ) (rows : List (Row ℕ)) (nodes : List (Node V)) → HaveRoom P nodes → HaveRoom P (put_row cut new x rows nodes).nodes
  put_room cut x room new [] nodes h = h
  put_room cut x room new (r ∷ rest) [] h = h
  put_room cut x room new (r ∷ rest) (n ∷ ns) h = by_test (is_below_first x.key rest) (put_room cut x room new rest ns h.1)
    where
      by_test : (b : Bool) → HaveRoom P (put_row cut new x rest ns).nodes
          → HaveRoom P (if b then cut_page (cut (with_row x n.rows)) new n (with_row x n.rows) ns else before_put n (put_row cut new x rest ns)).nodes
      by_test true later = cut_page_room cut x room new n ns (cut (with_row x n.rows)) refl h.0 h.1
      by_test false later = (h.0, later)

  left_room : (key : ℕ) (n : Node V) (rows : List (Row V)) (after : List (Node V)) → P rows → HaveRoom P after → HaveRoom P (kept_page key n rows after).nodes
  left_room key n [] after p h = h
  left_room key n (y ∷ ys) after p h = (p, h)

  take_room : (change : ℕ → List (Row V) → List (Row V)) → ((key : ℕ) (rows : List (Row V)) → P rows → P (change key rows)) → (k : ℕ) (rows : List (Row ℕ)) (nodes : List (Node V)) → HaveRoom P nodes
      → HaveRoom P (take_row change k rows nodes).nodes
  take_room change keeps k [] nodes h = h
  take_room change keeps k (r ∷ rest) [] h = h
  take_room change keeps k (r ∷ rest) (n ∷ ns) h = by_test (is_below_first k rest) (take_room change keeps k rest ns h.1)
    where
      by_test : (b : Bool) → HaveRoom P (take_row change k rest ns).nodes → HaveRoom P (if b then kept_page r.key n (change r.key n.rows) ns else before_taken n (take_row change k rest ns)).nodes
      by_test true later = left_room r.key n (change r.key n.rows) ns (keeps r.key n.rows h.0) h.1
      by_test false later = (h.0, later)

  first_keys_room : ((key : ℕ) (rows : List (Row V)) → P rows → P (with_first_key key rows)) → (rows : List (Row ℕ)) (nodes : List (Node V)) → HaveRoom P nodes
      → HaveRoom P (with_first_keys rows nodes)
  first_keys_room keeps [] nodes h = h
  first_keys_room keeps (r ∷ rest) [] h = h
  first_keys_room keeps (r ∷ rest) (n ∷ ns) h = (keeps r.key n.rows h.0, first_keys_room keeps rest ns h.1)

module _ (P : Room Payload) (Q : Room ℕ) where
  top_room : (ps : List ℕ) (above : List (List (Node ℕ))) (leaves : List (Node Payload)) → LevelsHaveRoom Q above → HaveRoom P leaves
      → LevelsHaveRoom Q (top_renumbered ps above leaves).above × HaveRoom P (top_renumbered ps above leaves).leaves
  top_room ps [] leaves h l = (tt, linked_room P 0 (renumbered ps leaves) (renumbered_room P ps leaves l))
  top_room ps (nodes ∷ more) leaves h l = ((linked_room Q 0 (renumbered ps nodes) (renumbered_room Q ps nodes h.0), h.1), l)

  -- an insert
  module _ (cuts : Cuts) (x : Row Payload) (leaf_cut : CutsToRoom P cuts.leaf x) (index_cut : (y : Row ℕ) → CutsToRoom Q cuts.index y) where
    separator_room : (rows : List (Row ℕ)) (nodes : List (Node ℕ)) (b : Grown) (o : Option (Row ℕ)) → HaveRoom Q nodes → LevelsHaveRoom Q b.above → HaveRoom P b.leaves
        → LevelsHaveRoom Q (with_separator cuts.index rows nodes b o).above × HaveRoom P (with_separator cuts.index rows nodes b o).leaves
    separator_room rows nodes b None here h l = ((here, h), l)
    separator_room rows nodes b (Some y) here h l =
        ((linked_room Q 0 (put_row cuts.index (first_fresh b.fresh) y rows nodes).nodes (put_room Q cuts.index y (index_cut y) (first_fresh b.fresh) rows nodes here), h), l)

    grown_room : (fresh : List ℕ) (rows : List (Row ℕ)) (above : List (List (Node ℕ))) (leaves : List (Node Payload)) → LevelsHaveRoom Q above → HaveRoom P leaves
        → LevelsHaveRoom Q (grown cuts fresh x rows above leaves).above × HaveRoom P (grown cuts fresh x rows above leaves).leaves
    grown_room fresh rows [] leaves h l =
        (tt, linked_room P 0 (put_row cuts.leaf (first_fresh fresh) x rows leaves).nodes (put_room P cuts.leaf x leaf_cut (first_fresh fresh) rows leaves l))
    grown_room fresh rows (nodes ∷ more) leaves h l =
        let b = grown cuts fresh x (rows_of nodes) more leaves in
        let r = grown_room fresh (rows_of nodes) more leaves h.1 l in separator_room rows nodes b b.separator h.0 r.0 r.1

    raised_room : (two : (r s : Row ℕ) → Q (r ∷ s ∷ [])) (root : ℕ) (b : Grown) (o : Option (Row ℕ)) → LevelsHaveRoom Q b.above → HaveRoom P b.leaves
        → LevelsHaveRoom Q (raised root b o).above × HaveRoom P (raised root b o).leaves
    raised_room two root b None h l = (h, l)
    raised_room two root b (Some u) h l =
        let t = top_room (u.value ∷ first_fresh b.fresh ∷ []) b.above b.leaves h l in
        (((two (record { key = 0; value = u.value }) (record { key = u.key; value = first_fresh b.fresh }), tt), t.0), t.1)

    pub inserted_room : (two : (r s : Row ℕ) → Q (r ∷ s ∷ [])) (fresh : List ℕ) (root : ℕ) (tree : Tree) → LevelsHaveRoom Q tree.above → HaveRoom P tree.leaves
        → let t = inserted cuts fresh root x tree in LevelsHaveRoom Q t.above × HaveRoom P t.leaves
    inserted_room two fresh root tree h l =
        let b = grown cuts fresh x (root_rows root) tree.above tree.leaves in
        let r = grown_room fresh (root_rows root) tree.above tree.leaves h l in raised_room two root b b.separator r.0 r.1

  -- a delete
  module _ (leaf_less : (k : ℕ) (rows : List (Row Payload)) → P rows → P (without k rows)) (index_less : (k : ℕ) (rows : List (Row ℕ)) → Q rows → Q (without k rows))
      (index_head : (k : ℕ) (rows : List (Row ℕ)) → Q rows → Q (with_first_key k rows)) where
    edges_room : (rows : List (Row ℕ)) (above : List (List (Node ℕ))) → LevelsHaveRoom Q above → LevelsHaveRoom Q (with_left_edges rows above)
    edges_room rows [] h = h
    edges_room rows (nodes ∷ more) h = (first_keys_room Q index_head rows nodes h.0, edges_room (rows_of (with_first_keys rows nodes)) more h.1)

    below_loss_room : (o : Option ℕ) (rows : List (Row ℕ)) (above : List (List (Node ℕ))) → LevelsHaveRoom Q above → LevelsHaveRoom Q (below_loss o rows above)
    below_loss_room None rows above h = edges_room rows above h
    below_loss_room (Some k) rows above h = h

    sunk_room : (rows : List (Row ℕ)) (nodes : List (Node ℕ)) (b : Shrunk) (o : Option ℕ) → HaveRoom Q nodes → LevelsHaveRoom Q b.above → LevelsHaveRoom Q (without_separator rows nodes b o).above
    sunk_room rows nodes b None here h = (here, h)
    sunk_room rows nodes b (Some k) here h =
        let c = take_row (index_without k) k rows nodes in (
          linked_room Q 0 c.nodes (take_room Q (index_without k) (λ key rs q. index_head key (without k rs) (index_less k rs q)) k rows nodes here),
          below_loss_room c.gone_key (rows_of c.nodes) b.above h,
        )

    sunk_leaves : (rows : List (Row ℕ)) (nodes : List (Node ℕ)) (b : Shrunk) (o : Option ℕ) → HaveRoom P b.leaves → HaveRoom P (without_separator rows nodes b o).leaves
    sunk_leaves rows nodes b None l = l
    sunk_leaves rows nodes b (Some k) l = l

    shrunk_room : (k : ℕ) (rows : List (Row ℕ)) (above : List (List (Node ℕ))) (leaves : List (Node Payload)) → LevelsHaveRoom Q above → HaveRoom P leaves
        → LevelsHaveRoom Q (shrunk k rows above leaves).above × HaveRoom P (shrunk k rows above leaves).leaves
    shrunk_room k rows [] leaves h l = (tt, linked_room P 0 (take_row (leaf_without k) k rows leaves).nodes (take_room P (leaf_without k) (λ key rs p. leaf_less k rs p) k rows leaves l))
    shrunk_room k rows (nodes ∷ more) leaves h l =
        let b = shrunk k (rows_of nodes) more leaves in
        let r = shrunk_room k (rows_of nodes) more leaves h.1 l in (sunk_room rows nodes b b.gone_key h.0 r.0, sunk_leaves rows nodes b b.gone_key r.1)

    collapsed_room : (above : List (List (Node ℕ))) (leaves : List (Node Payload)) → LevelsHaveRoom Q above → HaveRoom P leaves
        → LevelsHaveRoom Q (collapsed above leaves).above × HaveRoom P (collapsed above leaves).leaves
    collapsed_room [] leaves h l = (tt, l)
    collapsed_room (nodes ∷ more) leaves h l = by_test (length (rows_of nodes) == 1) (collapsed_room more leaves h.1 l)
      where
        by_test : (b : Bool) → LevelsHaveRoom Q (collapsed more leaves).above × HaveRoom P (collapsed more leaves).leaves
            → let t : Tree = (if b then collapsed more leaves else record { above = nodes ∷ more; leaves = leaves }) in LevelsHaveRoom Q t.above × HaveRoom P t.leaves
        by_test true later = later
        by_test false later = (h, l)

    lowered_room : (none : P []) (root : ℕ) (b : Shrunk) (o : Option ℕ) → LevelsHaveRoom Q b.above → HaveRoom P b.leaves
        → LevelsHaveRoom Q (lowered root b o).above × HaveRoom P (lowered root b o).leaves
    lowered_room none root b (Some k) h l = (tt, (none, tt))
    lowered_room none root b None h l = let r = collapsed_room b.above b.leaves h l in top_room (root ∷ []) (collapsed b.above b.leaves).above (collapsed b.above b.leaves).leaves r.0 r.1

    pub deleted_room : (none : P []) (root k : ℕ) (tree : Tree) → LevelsHaveRoom Q tree.above → HaveRoom P tree.leaves → let t = deleted root k tree in LevelsHaveRoom Q t.above × HaveRoom P t.leaves
    deleted_room none root k tree h l =
        let b = shrunk k (root_rows root) tree.above tree.leaves in
        let r = shrunk_room k (root_rows root) tree.above tree.leaves h l in lowered_room none root b b.gone_key r.0 r.1

pub insert_has_room : InsertHasRoom
insert_has_room leaf index cuts fresh root x tree leaf_cut index_cut two room = inserted_room (Passes leaf) (Passes index) cuts x leaf_cut index_cut two fresh root tree room.0 room.1

pub delete_has_room : DeleteHasRoom
delete_has_room leaf index root k tree leaf_less index_less index_head none room = deleted_room (Passes leaf) (Passes index) leaf_less index_less index_head none root k tree room.0 room.1
