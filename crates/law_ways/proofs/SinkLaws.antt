-- A row taken from a tree changes the pages on the way to its leaf as these pages tell, and prev and next of each page
-- that goes.
use Rattle.std.proofs.Common.{◌≡◌, ℕ, suc, ◌≤◌, Bool, true, false, List, [], ◌∷◌, ◌++◌, Option, Some, None, nat_lt, refl, sym, ap, ◌∙◌, subst, inl, inr, arith}
use Rattle.std.proofs.lemmas.Bool.{eq-eqb, ne_eqb, ltb-false}
use Rattle.spec_levels.specs.Levels.{Row, Node, rows_of, pages_of, first_page, IsLinked, Payload}
use Rattle.spec_ways.specs.Climbs.{with_first_prev, Grows}
use Rattle.spec_ways.specs.Delete.{Taken, kept_page, take_row, leaf_without, index_without, with_first_keys, with_left_edges, Shrunk, below_loss, without_separator, shrunk}
use Rattle.spec_ways.specs.Insert.{linked}
use Rattle.spec_ways.specs.Rows.{with_first_key, lowest_key, without}
use Rattle.spec_ways.specs.Sinks.{Loss, Untouched, Keeps, Goes, loss_of, gone_key_of, Sink, with_last_next, with_edge, after_loss, IsSunk, AreSunk}
use Rattle.spec_ways.specs.Ways.{child_toward, key_toward, Way, through, ending_at, through_child, way_from}
use Rattle.law_ways.proofs.Bounds.{Within, shifted}
use Rattle.law_ways.proofs.Fits.{Level, Starts, StartsAt, Fits, count, all_pages}
use Rattle.law_ways.proofs.GrowLaws.{key_same, linked_rows, rows_start, count_append, alike_up}
use Rattle.law_ways.proofs.PathLaws.{behind_left, Spot, spot_at, spot_child, spot_toward}
use Rattle.law_ways.proofs.PutLaws.{level_within, here_within, AreAlike, alike_at, alike_above}
use Rattle.law_ways.proofs.ShrinkLaws.{edges_same, IsLower, shrunk_is}
use Rattle.law_ways.proofs.StepLaws.{linked_same, linked_step, alike_same}
use Rattle.law_ways.proofs.TakeLaws.{first_keys_linked, IsOut, index_out_at}
use Rattle.law_ways.proofs.TowardLaws.{toward_here, toward_later}
use Rattle.law_ways.proofs.ByKey.{edge_by_key, sink_through_by_key, sink_by_key}
use Rattle.law_ways.proofs.SlotLaws.{gone_is, sink_same}
use Rattle.spec_ways.specs.Sinks.{sink, sink_through}

-- the key of the row towards a key is on its side of each row
key_alike : (k low : ℕ) (r : Row ℕ) (rest : List (Row ℕ)) → Within low None (r ∷ rest) → r.key ≤ k → (r.key ≤ key_toward k (r ∷ rest)) × AreAlike k (key_toward k (r ∷ rest)) (r ∷ rest)
key_alike k low r [] w le = (omega arith, (alike_at k r.key r le (omega arith), tt))
key_alike k low r (s ∷ rest) w le = by_test (λ le'. key_alike k (suc r.key) s rest w.2 le') (nat_lt k s.key) refl
  where
    by_test : (s.key ≤ k → (s.key ≤ key_toward k (s ∷ rest)) × AreAlike k (key_toward k (s ∷ rest)) (s ∷ rest)) → (b : Bool) → nat_lt k s.key ≡ b
        → (r.key ≤ key_toward k (r ∷ s ∷ rest)) × AreAlike k (key_toward k (r ∷ s ∷ rest)) (r ∷ s ∷ rest)
    by_test go true e =
        subst (λ q. (r.key ≤ q) × AreAlike k q (r ∷ s ∷ rest)) (sym (toward_here (λ r. r.key) k (suc r.key) None r (s ∷ rest) e w.2))
        (omega arith, (alike_at k r.key r le (omega arith), alike_above k r.key None (s ∷ rest) (here_within k (suc r.key) None (s ∷ rest) e w.2) w.2))
    by_test go false e =
        let h = go (ltb-false k s.key e) in
        subst (λ q. (r.key ≤ q) × AreAlike k q (r ∷ s ∷ rest)) (sym (toward_later (λ r. r.key) k r (s ∷ rest) e))
        (omega (arith, h.0, w.2.0), (alike_at k (key_toward k (s ∷ rest)) r le (omega (arith, h.0, w.2.0)), h.1))

toward_alike : (k low : ℕ) (rows : List (Row ℕ)) → StartsAt low rows → Within low None rows → low ≤ k → AreAlike k (key_toward k rows) rows
toward_alike k low [] at w le = tt
toward_alike k low (r ∷ rest) at w le = (key_alike k low r rest w (omega (arith, at, le))).1

module _ {V : Type 0} where
  edge_first : (e : Option ℕ) (nodes : List (Node V)) → first_page (with_edge e nodes) ≡ first_page nodes
  edge_first None nodes = refl
  edge_first (Some g) [] = refl
  edge_first (Some g) (n ∷ ns) = refl

  relinked : (b q : ℕ) (e : Option ℕ) (nodes : List (Node V)) → IsLinked q nodes → linked b (with_edge e nodes) ≡ with_first_prev b (with_edge e nodes)
  relinked b q None [] l = refl
  relinked b q (Some g) [] l = refl
  relinked b q None (n ∷ ns) l =
      ap (λ (p : ℕ). record { page = n.page; prev = b; next = p; rows = n.rows } ∷ linked n.page ns) (sym l.1)
      ∙ ap (λ l. record { page = n.page; prev = b; next = n.next; rows = n.rows } ∷ l) (linked_same n.page ns l.2)
  relinked b q (Some g) (n ∷ ns) l =
      ap (λ (p : ℕ). record { page = n.page; prev = b; next = p; rows = with_first_key g n.rows } ∷ linked n.page ns) (sym l.1)
      ∙ ap (λ l. record { page = n.page; prev = b; next = n.next; rows = with_first_key g n.rows } ∷ l) (linked_same n.page ns l.2)

  -- what linking the pages again changes where one is gone
  linked_gone : (b : ℕ) (left : List (Node V)) (n : Node V) (right : List (Node V)) (e : Option ℕ) → IsLinked b (left ++ n ∷ right)
      → linked b (left ++ with_edge e right) ≡ with_last_next (first_page right) left ++ with_first_prev n.prev (with_edge e right)
  linked_gone b [] n right e l = relinked b n.page e right l.2 ∙ ap (λ p. with_first_prev p (with_edge e right)) (sym l.0)
  linked_gone b (m ∷ []) n right e l =
      ap (λ (p : ℕ). record { page = m.page; prev = p; next = first_page (with_edge e right); rows = m.rows } ∷ linked m.page (with_edge e right)) (sym l.0)
      ∙ ap (λ (p : ℕ). record { page = m.page; prev = m.prev; next = p; rows = m.rows } ∷ linked m.page (with_edge e right)) (edge_first e right)
      ∙ ap (λ l. record { page = m.page; prev = m.prev; next = first_page right; rows = m.rows } ∷ l) (linked_gone m.page [] n right e l.2)
  linked_gone b (m ∷ o ∷ ms) n right e l =
      ap (λ (p : ℕ). record { page = m.page; prev = p; next = o.page; rows = m.rows } ∷ linked m.page (o ∷ ms ++ with_edge e right)) (sym l.0)
      ∙ ap (λ (p : ℕ). record { page = m.page; prev = m.prev; next = p; rows = m.rows } ∷ linked m.page (o ∷ ms ++ with_edge e right)) (sym l.1)
      ∙ ap (λ l. m ∷ l) (linked_gone m.page (o ∷ ms) n right e l.2)

  -- a row taken from a level, as its page tells
  abbrev left_taken : ℕ → List (Node V) → Node V → List (Node V) → List (Row V) → Taken V
  left_taken key left n right rows = behind_left left (kept_page key n rows right)

  taken_loss : (key : ℕ) (left : List (Node V)) (n : Node V) (right : List (Node V)) (rows : List (Row V)) (below : Option ℕ) → IsLinked 0 (left ++ n ∷ right)
      → linked 0 (left_taken key left n right rows).nodes ≡ after_loss (loss_of rows below) None left n right
  taken_loss key left n right [] below l = linked_gone 0 left n right None l
  taken_loss key left n right (y ∷ ys) below l = linked_step 0 left n right (Grows (y ∷ ys)) l

  taken_gone : (key : ℕ) (left : List (Node V)) (n : Node V) (right : List (Node V)) (rows : List (Row V)) (below : Option ℕ)
      → (left_taken key left n right rows).gone_key ≡ gone_key_of key (loss_of rows below)
  taken_gone key left n right [] below = refl
  taken_gone key left n right (y ∷ ys) below = refl

abbrev pub SunkCase : ℕ → List (Row ℕ) → List (Node ℕ) → List (Loss ℕ) → List (List (Node ℕ)) → List (List (Node ℕ)) → Option ℕ → Type 0
SunkCase key rows ns losses above above' None = AreSunk None ns losses above above'
SunkCase key rows ns losses above above' (Some g) = (g ≡ key) × AreSunk None ns losses above above' × AreSunk (Some g) ns losses above (with_left_edges (shifted g rows) above')

abbrev from_taken : List (Row ℕ) → Shrunk → Taken ℕ → Shrunk
from_taken rows b c = record { above = linked 0 c.nodes ∷ below_loss c.gone_key (rows_of c.nodes) b.above; leaves = b.leaves; gone_key = c.gone_key }

first_is : (key : ℕ) (xs : List (Row ℕ)) → StartsAt key xs → lowest_key xs ≡ key
first_is key [] s = absurd s
first_is key (x ∷ xs) s = s

edge_yes : (g key : ℕ) (xs : List (Row ℕ)) → StartsAt key xs → g ≡ key → edge_by_key g xs ≡ Some g
edge_yes g key xs s same = let e = eq-eqb g (lowest_key xs) (same ∙ sym (first_is key xs s)) in rw e refl

edge_no : (g key : ℕ) (xs : List (Row ℕ)) → StartsAt key xs → (g ≡ key → ⊥) → edge_by_key g xs ≡ None
edge_no g key xs s other = let e = ne_eqb g (lowest_key xs) (λ same. other (same ∙ first_is key xs s)) in rw e refl

-- one level more
module _ (k low : ℕ) (rows : List (Row ℕ)) (nodes : List (Node ℕ)) (more : List (List (Node ℕ))) (s : Spot k low rows nodes) (st : Starts rows nodes) (links : IsLinked 0 nodes)
    (ns : List (Node ℕ)) (losses : List (Loss ℕ)) (leaves : List (Node Payload)) (b : Shrunk) (g : ℕ) (alike : AreAlike k g rows) where
  sunk_level : (rs : List (Row ℕ)) → IsOut g rows nodes (left_taken s.key s.left s.node s.right rs) → AreSunk None ns losses more b.above
      → AreSunk (Some g) ns losses more (with_left_edges (shifted g (rows_of nodes)) b.above) → Fits None (without g (rows_of nodes)) b.above b.leaves
      → let t = from_taken rows b (left_taken s.key s.left s.node s.right rs) in
      SunkCase s.key rows (s.node ∷ ns) (loss_of rs (edge_by_key g s.node.rows) ∷ losses) (nodes ∷ more) t.above t.gone_key
  sunk_level [] out plain edge f =
      let h = out.left in
      let S = shifted g rows in
      let nodes' = s.left ++ s.right in
      let at : g ≡ s.key = sym h.same in
      let l = subst (IsLinked 0) s.nodes_are links in
      let heads_are : with_first_keys S (linked 0 nodes') ≡ linked 0 (s.left ++ with_edge (Some g) s.right) = first_keys_linked 0 S nodes' ∙ ap (linked 0) (s.edges g at st) in (
        refl,
        (record { left = s.left; right = s.right; was = s.nodes_are; is = linked_gone 0 s.left s.node s.right None l }, plain),
        subst (λ j. AreSunk (Some j) (s.node ∷ ns) (Goes ∷ losses) (nodes ∷ more) (with_left_edges (shifted j rows) (linked 0 nodes' ∷ b.above))) at (
          record { left = s.left; right = s.right; was = s.nodes_are; is = heads_are ∙ linked_gone 0 s.left s.node s.right (Some g) l },
          subst (λ R. AreSunk (Some g) ns losses more (with_left_edges R b.above))
              (sym (ap (λ l. rows_of l) (first_keys_linked 0 S nodes') ∙ linked_rows 0 (with_first_keys S nodes') ∙ h.next_rows)) edge,
        ),
      )
  sunk_level (y ∷ ys) out plain edge f =
      let h = out.left in
      let nodes' = (left_taken s.key s.left s.node s.right (y ∷ ys)).nodes in
      let l = subst (IsLinked 0) s.nodes_are links in
      let same_key : h.key ≡ s.key = sym h.key_is ∙ key_same k g rows alike ∙ s.key_is in (
        record { left = s.left; right = s.right; was = s.nodes_are; is = linked_step 0 s.left s.node s.right (Grows (y ∷ ys)) l },
        elim h.rows_are [
          | inl a ↦ subst (λ e. AreSunk e ns losses more (with_left_edges (rows_of nodes') b.above)) (sym (edge_yes g s.key s.node.rows (s.starts st) (a.0 ∙ same_key)))
              (subst (λ R. AreSunk (Some g) ns losses more (with_left_edges R b.above)) (sym a.1) edge)
          | inr c ↦ subst (λ e. AreSunk e ns losses more (with_left_edges (rows_of nodes') b.above)) (sym (edge_no g s.key s.node.rows (s.starts st) (λ e. c.0 (e ∙ sym same_key))))
              (subst (λ l. AreSunk None ns losses more l)
              (sym (edges_same (rows_of nodes') b.above b.leaves (subst (λ R. Fits None R b.above b.leaves) (sym c.1) f))) plain)
        ],
      )

-- a row taken from levels
pub record Sinks (k : ℕ) (rows : List (Row ℕ)) (above : List (List (Node ℕ))) (leaves : List (Node Payload)) (b : Shrunk) : Type 0 where
  pub way : Way
  pub is : way_from k above leaves (child_toward k rows) ≡ Some way
  pub leaf_loss : IsSunk way.leaf (sink_by_key (key_toward k rows) k way.above way.leaf).leaf None leaves b.leaves
  pub slots : (j : ℕ) → j ≡ key_toward k rows → sink j k way.above way.leaf ≡ sink_by_key j k way.above way.leaf
  pub gone_is : b.gone_key ≡ (sink_by_key (key_toward k rows) k way.above way.leaf).gone_key
  pub above_losses : SunkCase (key_toward k rows) rows way.above (sink_by_key (key_toward k rows) k way.above way.leaf).above above b.above b.gone_key

sinks_leaves : (k low : ℕ) (rows : List (Row ℕ)) (leaves : List (Node Payload)) → StartsAt low rows → Within low None rows → Level None rows leaves → IsLinked 0 leaves
    → ((p : ℕ) → count p (pages_of leaves) ≤ 1) → Sinks k rows [] leaves (shrunk k rows [] leaves)
sinks_leaves k low rows leaves at w l links once =
    let s = spot_at k low rows leaves at w l once in
    let rs = without k s.node.rows in
    let is = s.takes (leaf_without k) k (alike_same k rows) in
    let key = key_toward k rows in
    let gone_key : (take_row (leaf_without k) k rows leaves).gone_key ≡ gone_key_of key (loss_of rs None) =
    ap (λ (c : Taken Payload). c.gone_key) is ∙ taken_gone s.key s.left s.node s.right rs None ∙ ap (λ j. gone_key_of j (loss_of rs None)) (sym s.key_is) in
    record {
      way = record { above = []; leaf = s.node };
      is = ap ending_at s.is;
      leaf_loss = record {
        left = s.left;
        right = s.right;
        was = s.nodes_are;
        is = ap (λ (c : Taken Payload). linked 0 c.nodes) is ∙ taken_loss s.key s.left s.node s.right rs None (subst (IsLinked 0) s.nodes_are links);
      };
      slots = λ j same. refl;
      gone_is = gone_key;
      above_losses = subst (SunkCase key rows [] [] [] []) (sym gone_key) (by_loss key (loss_of rs None));
    }
  where
    by_loss : (key : ℕ) (loss : Loss Payload) → SunkCase key rows [] [] [] [] (gone_key_of key loss)
    by_loss key Untouched = tt
    by_loss key (Keeps rs e) = tt
    by_loss key Goes = (refl, tt, tt)

-- one level more
record Sinking (k : ℕ) (rows : List (Row ℕ)) (nodes : List (Node ℕ)) (more : List (List (Node ℕ))) (n : Node ℕ) (ns : List (Node ℕ)) (b : Shrunk) (c : Sink) (o : Option ℕ) : Type 0 where
  leaf_is : (sink_through_by_key (key_toward k rows) n c o).leaf ≡ c.leaf
  leaves_are : (without_separator rows nodes b o).leaves ≡ b.leaves
  gone_is : (without_separator rows nodes b o).gone_key ≡ (sink_through_by_key (key_toward k rows) n c o).gone_key
  above_losses : SunkCase (key_toward k rows) rows (n ∷ ns) (sink_through_by_key (key_toward k rows) n c o).above (nodes ∷ more) (without_separator rows nodes b o).above
      (without_separator rows nodes b o).gone_key

sinking : (k low : ℕ) (rows : List (Row ℕ)) (nodes : List (Node ℕ)) (more : List (List (Node ℕ))) → StartsAt low rows → Within low None rows → Level None rows nodes
    → (s : Spot k low rows nodes) → Starts rows nodes → IsLinked 0 nodes
    → (ns : List (Node ℕ)) (b : Shrunk) (c : Sink) (o : Option ℕ) → SunkCase (key_toward k (rows_of nodes)) (rows_of nodes) ns c.above more b.above o
    → IsLower (rows_of nodes) b.above b.leaves o → AreAlike k (key_toward k (rows_of nodes)) rows → Sinking k rows nodes more s.node ns b c o
sinking k low rows nodes more at w l s st links ns b c None case lower alike = record {
  leaf_is = refl;
  leaves_are = refl;
  gone_is = refl;
  above_losses = (record { left = s.left; right = s.right; was = s.nodes_are; is = s.nodes_are }, case);
}
sinking k low rows nodes more at w l s st links ns b c (Some g) case lower alike =
    let alike_g = subst (λ j. AreAlike k j rows) (sym case.0) alike in
    let rs = with_first_key s.key (without g s.node.rows) in
    let is = s.takes (index_without g) g alike_g in
    let t = left_taken s.key s.left s.node s.right rs in
    let out = subst (IsOut g rows nodes) is (index_out_at g low rows nodes at w l st) in
    let key = key_toward k rows in
    let e = edge_by_key g s.node.rows in
    let loss = λ (j : ℕ). loss_of (with_first_key j (without g s.node.rows)) e in
    record {
      leaf_is = refl;
      leaves_are = refl;
      gone_is = ap (λ (c : Taken ℕ). c.gone_key) is ∙ taken_gone s.key s.left s.node s.right rs e ∙ ap (λ j. gone_key_of j (loss j)) (sym s.key_is);
      above_losses = subst (λ (u : Taken ℕ). SunkCase key rows (s.node ∷ ns) (loss key ∷ c.above) (nodes ∷ more) (from_taken rows b u).above u.gone_key) (sym is)
          (subst (λ j. SunkCase j rows (s.node ∷ ns) (loss j ∷ c.above) (nodes ∷ more) (from_taken rows b t).above t.gone_key) (sym s.key_is)
          (sunk_level k low rows nodes more s st links ns c.above b.leaves b g alike_g rs out case.1 case.2 lower.fits));
    }

pub sinks : (k low : ℕ) (rows : List (Row ℕ)) (above : List (List (Node ℕ))) (leaves : List (Node Payload)) → low ≤ k → StartsAt low rows → Within low None rows → Fits None rows above leaves
    → ((p : ℕ) → count p (all_pages above leaves) ≤ 1) → Sinks k rows above leaves (shrunk k rows above leaves)
sinks k low rows [] leaves le at w f once = sinks_leaves k low rows leaves at w f.0 f.1 once
sinks k low rows (nodes ∷ more) leaves le at w f once =
    let counts = λ (p : ℕ). count_append p (pages_of nodes) (all_pages more leaves) in
    let s = spot_at k low rows nodes at w f.0 (λ p. let a = once p in let b = counts p in omega (arith, a, b)) in
    let at_more = rows_start low None rows nodes at f.0 f.1 in
    let within_more = level_within low None rows nodes w f.0 in
    let b = shrunk k (rows_of nodes) more leaves in
    let h = sinks k low (rows_of nodes) more leaves le at_more within_more f.3 (λ p. let a = once p in let b = counts p in omega (arith, a, b)) in
    let key_is : key_toward k s.node.rows ≡ key_toward k (rows_of nodes) = spot_toward (λ r. r.key) k low rows nodes s le f.1 in
    let c = λ (j : ℕ). sink_by_key j k h.way.above h.way.leaf in
    let below = key_toward k (rows_of nodes) in
    let key = key_toward k rows in
    let lower = shrunk_is k low (rows_of nodes) more leaves at_more within_more f.3 in
    let alike = alike_up k below None rows nodes f.0 f.1 (toward_alike k low (rows_of nodes) at_more within_more le) in
    let r = sinking k low rows nodes more at w f.0 s f.1 f.2 h.way.above b (c below) b.gone_key h.above_losses lower.lower alike in
    let t = without_separator rows nodes b b.gone_key in
    let end = λ (j : ℕ) (o : Option ℕ). sink_through_by_key key s.node (c j) o in
    record {
      way = record { above = s.node ∷ h.way.above; leaf = h.way.leaf };
      is = ap (through_child (way_from k more leaves) k) s.is ∙ ap (λ q. through s.node (way_from k more leaves q)) (spot_child k low rows nodes s le f.1) ∙ ap (through s.node) h.is;
      leaf_loss = subst (λ j. IsSunk h.way.leaf (end j (c j).gone_key).leaf None leaves t.leaves) (sym key_is)
          (subst (λ o. IsSunk h.way.leaf (end below o).leaf None leaves t.leaves) h.gone_is
          (subst (λ loss. IsSunk h.way.leaf loss None leaves t.leaves) (sym r.leaf_is)
          (subst (IsSunk h.way.leaf (c below).leaf None leaves) (sym r.leaves_are) h.leaf_loss)));
      slots = λ j same.
          let at : s.key ≡ j = sym s.key_is ∙ sym same in
          ap (λ (d : Sink). sink_through j k s.node d d.gone_key) (h.slots (key_toward k s.node.rows) key_is)
          ∙ sink_same j k s.bound s.node (c (key_toward k s.node.rows)) (c (key_toward k s.node.rows)).gone_key (subst (λ i. StartsAt i s.node.rows) at (s.starts f.1)) (subst (λ i. Within i s.bound s.node.rows) at s.within)
          (λ g e. sym (gone_is (key_toward k s.node.rows) k h.way.above h.way.leaf g e));
      gone_is = r.gone_is ∙ ap (λ o. (end below o).gone_key) h.gone_is ∙ ap (λ j. (end j (c j).gone_key).gone_key) (sym key_is);
      above_losses = subst (λ j. SunkCase key rows (s.node ∷ h.way.above) (end j (c j).gone_key).above (nodes ∷ more) t.above t.gone_key) (sym key_is)
          (subst (λ o. SunkCase key rows (s.node ∷ h.way.above) (end below o).above (nodes ∷ more) t.above t.gone_key) h.gone_is r.above_losses);
    }
