-- Where pages go below a page that keeps rows, the page that its new first row names is the next of the one that goes.
use Rattle.std.proofs.Common.{◌≡◌, ℕ, suc, ◌≤◌, ◌==◌, Bool, true, false, List, [], ◌∷◌, ◌++◌, length, Option, Some, None, refl, sym, ap, ◌∙◌, subst, inl, inr, arith}
use Rattle.std.specs.Prelude.{if◌then◌else◌}
use Rattle.std.proofs.lemmas.Bool.{cases_eq, eqb-true}
use Rattle.spec_levels.specs.Levels.{Payload, Row, Node, rows_of, pages_of, first_page, IsLinked, tree_pages}
use Rattle.spec_ways.specs.Rows.{without, with_first_key, lowest_key, first_value}
use Rattle.spec_ways.specs.Ways.{child_toward, key_toward, Way, through, ending_at, through_child, way_from}
use Rattle.spec_ways.specs.Insert.{root_rows}
use Rattle.spec_ways.specs.Sinks.{Loss, Goes, loss_of, gone_key_of, Sink}
use Rattle.spec_levels.specs.Pages.{IndexPage}
use Rattle.spec_ways.specs.Pages.{Pages, ShowsLevel, Shows}
use Rattle.spec_ways.specs.DeleteWrites.{first_child, first_children, left_edge}
use Rattle.law_ways.specs.DeleteLaws.{edge_nexts, LeftEdgeIsNext}
use Rattle.law_ways.proofs.Bounds.{Within, rows_behind}
use Rattle.law_ways.proofs.Bridge.{fits_from, once}
use Rattle.law_ways.proofs.Counts.{tree_counts}
use Rattle.law_ways.proofs.Fits.{Level, Starts, StartsAt, Fits, count, all_pages}
use Rattle.law_ways.proofs.GrowLaws.{rows_start, starts_append, count_append}
use Rattle.law_ways.proofs.PathLaws.{Spot, spot_at, spot_child, spot_toward, spot_rows, behind_same, behind_right}
use Rattle.law_ways.proofs.PutLaws.{level_within}
use Rattle.law_ways.proofs.RowLaws.{without_same, without_other}
use Rattle.law_ways.proofs.ShowLaws.{linked_at}
use Rattle.law_ways.proofs.WayReads.{some_is}
use Rattle.law_ways.proofs.ByKey.{edge_by_key, sink_through_by_key, sink_by_key}
use Rattle.law_ways.proofs.SlotLaws.{gone_is}
use Rattle.law_ways.proofs.DeleteLaw.{tree_sinks}
use Rattle.spec_ways.specs.Sinks.{sink}

shows_right : {V : Type 0} (kind : Node V → _) (image : Pages) (left : List (Node V)) (n : Node V) (right : List (Node V)) → ShowsLevel kind image (left ++ n ∷ right) → ShowsLevel kind image right
shows_right kind image [] n right s = s.1
shows_right kind image (m ∷ left) n right s = shows_right kind image left n right s.1

-- the first row names the first page
first_named : {V : Type 0} (low : ℕ) (post : List (Row ℕ)) (right : List (Node V)) → StartsAt low post → Level None post right → first_value post ≡ first_page right
first_named low [] right at l = absurd at
first_named low (q ∷ post) [] at l = absurd l
first_named low (q ∷ post) (m ∷ ms) at l = l.0

-- whose first row is the first of the level from there on
record HasFirst (image : Pages) (page : ℕ) (right : List (Node ℕ)) : Type 0 where
  low : ℕ
  starts : StartsAt low (rows_of right)
  child : first_child (image page) ≡ first_value (rows_of right)

pub first_is : (low : ℕ) (rows more : List (Row ℕ)) → StartsAt low rows → first_value (rows ++ more) ≡ first_value rows
first_is low [] more at = absurd at
first_is low (r ∷ rows) more at = refl

has_first : (level low : ℕ) (image : Pages) (post : List (Row ℕ)) (right : List (Node ℕ)) → StartsAt low post → Level None post right → Starts post right → ShowsLevel (IndexPage level) image right
    → HasFirst image (first_value post) right
has_first level low image [] right at l st s = absurd at
has_first level low image (q ∷ post) [] at l st s = absurd l
has_first level low image (q ∷ post) (m ∷ ms) at l st s = record {
  low = q.key;
  starts = starts_append q.key m.rows (rows_of ms) st.0;
  child = ap (λ p. first_child (image p)) l.0 ∙ ap first_child s.0 ∙ sym (first_is q.key m.rows (rows_of ms) st.0);
}

module _ (k low : ℕ) (rows : List (Row ℕ)) (nodes : List (Node ℕ)) (s : Spot k low rows nodes) (le : low ≤ k) (st : Starts rows nodes) where
  -- the rows behind the first of the way's page
  pub behind_is : (r : Row ℕ) (rest : List (Row ℕ)) → s.node.rows ≡ r ∷ rest → key_toward k (rows_of nodes) ≡ r.key
      → rows_behind (key_toward k (rows_of nodes)) (rows_of nodes) ≡ rest ++ rows_of s.right
  behind_is r rest e same =
      let key = key_toward k (rows_of nodes) in
      let at : r.key ≡ s.key = subst (StartsAt s.key) e (s.starts st) in
      ap (rows_behind key) (spot_rows k low rows nodes s)
      ∙ behind_right low s.key key (rows_of s.left) (s.node.rows ++ rows_of s.right) (omega (arith, at, same)) s.front
      ∙ ap (λ l. rows_behind key (l ++ rows_of s.right)) e
      ∙ behind_same key r (rest ++ rows_of s.right) same

  -- rows that are taken from a page: it had one, or it keeps those behind its first
  pub one_row : (g : ℕ) (xs : List (Row ℕ)) → StartsAt s.key xs → without g xs ≡ [] → (r : Row ℕ) × (xs ≡ r ∷ []) × (g ≡ r.key)
  one_row g [] at e = absurd at
  one_row g (r ∷ rest) at e = elim (cases_eq g r.key) [
    | inl same ↦ (r, ap (λ l. r ∷ l) (sym (without_same g r rest same) ∙ e), same)
    | inr other ↦ let f = sym (without_other g r rest other) ∙ e in absurd (cc)
  ]

  -- the page goes: its next comes first
  page_goes : (image : Pages) (level g : ℕ) (ns : List (Node ℕ)) (losses : List (Loss ℕ)) → IsLinked 0 nodes → ShowsLevel (IndexPage level) image nodes → (from : ℕ)
      → StartsAt from (rows_behind s.key rows) → (x : ℕ) → x ≡ key_toward k (rows_of nodes) → without x s.node.rows ≡ []
      → ((from : ℕ) → let post = rows_behind (key_toward k (rows_of nodes)) (rows_of nodes) in StartsAt from post → first_children (length ns) image (first_value post) ≡ edge_nexts (Some g) ns losses)
      → first_children (suc (length ns)) image (first_value (rows_behind s.key rows)) ≡ edge_nexts (Some g) (s.node ∷ ns) (Goes ∷ losses)
  page_goes image level g ns losses links shows from at x is none below =
      let post = rows_behind s.key rows in
      let one = one_row x s.node.rows (s.starts st) none in
      let next_post = behind_is one.0 [] one.1 (sym is ∙ one.2) in
      let h = has_first level from image post s.right at s.behind (s.behind_starts st)
      (shows_right (IndexPage level) image s.left s.node s.right (subst (ShowsLevel (IndexPage level) image) s.nodes_are shows)) in
      let next : first_value post ≡ s.node.next = first_named from post s.right at s.behind ∙ sym (linked_at 0 s.left s.node s.right (subst (IsLinked 0) s.nodes_are links)) in
      ap (λ (p : ℕ). p ∷ first_children (length ns) image (first_child (image (first_value post)))) next
      ∙ ap (λ l. s.node.next ∷ l)
      (ap (first_children (length ns) image) (h.child ∙ ap first_value (sym next_post)) ∙ below h.low (subst (StartsAt h.low) (sym next_post) h.starts))

pub no_rows : (j : ℕ) (xs : List (Row ℕ)) → with_first_key j xs ≡ [] → xs ≡ []
no_rows j [] e = refl
no_rows j (x ∷ xs) e = absurd (cc)

pub edge_is_first : (x g : ℕ) (xs : List (Row ℕ)) → edge_by_key x xs ≡ Some g → x ≡ lowest_key xs
edge_is_first x g xs e = by_test (x == lowest_key xs) refl e
  where
    by_test : (b : Bool) → (x == lowest_key xs) ≡ b → (if b then Some x else None) ≡ Some g → x ≡ lowest_key xs
    by_test true same e = eqb-true x (lowest_key xs) same
    by_test false other e = absurd (cc)

-- a page that keeps the rows behind its first
pub record KeepsRest (x : ℕ) (xs : List (Row ℕ)) (value : ℕ) : Type 0 where
  pub row : Row ℕ
  pub rest : List (Row ℕ)
  pub low : ℕ
  pub is : xs ≡ row ∷ rest
  pub key : x ≡ row.key
  pub starts : StartsAt low rest
  pub first : value ≡ first_value rest

pub keeps_rest : (at x j : ℕ) (xs : List (Row ℕ)) (y : Row ℕ) (ys : List (Row ℕ)) → StartsAt at xs → x ≡ lowest_key xs → with_first_key j (without x xs) ≡ y ∷ ys → KeepsRest x xs y.value
keeps_rest at x j [] y ys starts first e = absurd starts
keeps_rest at x j (r ∷ []) y ys starts first e = let f = sym (ap (with_first_key j) (without_same x r [] first)) ∙ e in absurd (cc)
keeps_rest at x j (r ∷ z ∷ zs) y ys starts first e = record {
  row = r;
  rest = z ∷ zs;
  low = z.key;
  is = refl;
  key = first;
  starts = refl;
  first = sym (ap first_value (sym (ap (with_first_key j) (without_same x r (z ∷ zs) first)) ∙ e));
}

-- the way, the left edge below pages that go, and the whole left edge
record EdgeRead (k : ℕ) (rows : List (Row ℕ)) (above : List (List (Node ℕ))) (leaves : List (Node Payload)) (image : Pages) : Type 0 where
  way : Way
  is : way_from k above leaves (child_toward k rows) ≡ Some way
  moved : (j g q from : ℕ) → (sink_by_key j k way.above way.leaf).gone_key ≡ Some q → let post = rows_behind (key_toward k rows) rows in StartsAt from post
      → first_children (length way.above) image (first_value post) ≡ edge_nexts (Some g) way.above (sink_by_key j k way.above way.leaf).above
  same : (j : ℕ) → left_edge image way.above (sink_by_key j k way.above way.leaf).above ≡ edge_nexts None way.above (sink_by_key j k way.above way.leaf).above

-- one level more
module _ (k low : ℕ) (rows : List (Row ℕ)) (nodes : List (Node ℕ)) (more : List (List (Node ℕ))) (leaves : List (Node Payload)) (image : Pages) (le : low ≤ k) (st : Starts rows nodes)
    (links : IsLinked 0 nodes) (shows : ShowsLevel (IndexPage (suc (length more))) image nodes) (s : Spot k low rows nodes) (h : EdgeRead k (rows_of nodes) more leaves image) where
  abbrev below : Sink
  below = sink_by_key (key_toward k s.node.rows) k h.way.above h.way.leaf

  key_is : (x : ℕ) → below.gone_key ≡ Some x → key_toward k (rows_of nodes) ≡ x
  key_is x e = sym (spot_toward (λ r. r.key) k low rows nodes s le st) ∙ gone_is (key_toward k s.node.rows) k h.way.above h.way.leaf x e

  goes : (j g q from : ℕ) (o : Option ℕ) → below.gone_key ≡ o → (sink_through_by_key j s.node below o).gone_key ≡ Some q → StartsAt from (rows_behind (key_toward k rows) rows)
      → first_children (suc (length h.way.above)) image (first_value (rows_behind (key_toward k rows) rows)) ≡ edge_nexts (Some g) (s.node ∷ h.way.above) (sink_through_by_key j s.node below o).above
  goes j g q from None is e start = absurd (cc)
  goes j g q from (Some x) is e start = by_rows (with_first_key j (without x s.node.rows)) refl e
    where
      by_rows : (rs : List (Row ℕ)) → with_first_key j (without x s.node.rows) ≡ rs → gone_key_of j (loss_of rs (edge_by_key x s.node.rows)) ≡ Some q
          → first_children (suc (length h.way.above)) image (first_value (rows_behind (key_toward k rows) rows))
          ≡ edge_nexts (Some g) (s.node ∷ h.way.above) (loss_of rs (edge_by_key x s.node.rows) ∷ below.above)
      by_rows [] none e =
          ap (λ key. first_children (suc (length h.way.above)) image (first_value (rows_behind key rows))) s.key_is
          ∙ page_goes k low rows nodes s le st image (suc (length more)) g h.way.above below.above links shows from (subst (λ key. StartsAt from (rows_behind key rows)) s.key_is start) x (sym (key_is x is))
          (no_rows j (without x s.node.rows) none) (λ from' start'. h.moved (key_toward k s.node.rows) g x from' is start')
      by_rows (y ∷ ys) some e = absurd (cc)

  stays : (j : ℕ) (o : Option ℕ) → below.gone_key ≡ o
      → left_edge image (s.node ∷ h.way.above) (sink_through_by_key j s.node below o).above ≡ edge_nexts None (s.node ∷ h.way.above) (sink_through_by_key j s.node below o).above
  stays j None is = h.same (key_toward k s.node.rows)
  stays j (Some x) is = by_rows (with_first_key j (without x s.node.rows)) refl (edge_by_key x s.node.rows) refl
    where
      by_rows : (rs : List (Row ℕ)) → with_first_key j (without x s.node.rows) ≡ rs → (e : Option ℕ) → edge_by_key x s.node.rows ≡ e
          → left_edge image (s.node ∷ h.way.above) (loss_of rs e ∷ below.above) ≡ edge_nexts None (s.node ∷ h.way.above) (loss_of rs e ∷ below.above)
      by_rows [] none e edge = h.same (key_toward k s.node.rows)
      by_rows (y ∷ ys) some None edge = h.same (key_toward k s.node.rows)
      by_rows (y ∷ ys) some (Some g) edge =
          let r = keeps_rest s.key x j s.node.rows y ys (s.starts st) (edge_is_first x g s.node.rows edge) some in
          let post = behind_is k low rows nodes s le st r.row r.rest r.is (key_is x is ∙ r.key) in
          ap (first_children (length h.way.above) image) (r.first ∙ sym (first_is r.low r.rest (rows_of s.right) r.starts) ∙ ap first_value (sym post))
          ∙ h.moved (key_toward k s.node.rows) g x r.low is (subst (StartsAt r.low) (sym post) (starts_append r.low r.rest (rows_of s.right) r.starts))

edge_read : (k low : ℕ) (rows : List (Row ℕ)) (above : List (List (Node ℕ))) (leaves : List (Node Payload)) (image : Pages) → low ≤ k → StartsAt low rows → Within low None rows
    → Fits None rows above leaves → ((p : ℕ) → count p (all_pages above leaves) ≤ 1) → Shows image above leaves → EdgeRead k rows above leaves image
edge_read k low rows [] leaves image le at w f once shows =
    let s = spot_at k low rows leaves at w f.0 once in
    record { way = record { above = []; leaf = s.node }; is = ap ending_at s.is; moved = λ j g q from e start. refl; same = λ j. refl }
edge_read k low rows (nodes ∷ more) leaves image le at w f once shows =
    let counts = λ (p : ℕ). count_append p (pages_of nodes) (all_pages more leaves) in
    let s = spot_at k low rows nodes at w f.0 (λ p. let a = once p in let b = counts p in omega (arith, a, b)) in
    let h = edge_read k low (rows_of nodes) more leaves image le (rows_start low None rows nodes at f.0 f.1) (level_within low None rows nodes w f.0) f.3
    (λ p. let a = once p in let b = counts p in omega (arith, a, b)) shows.1 in
    let b = sink_by_key (key_toward k s.node.rows) k h.way.above h.way.leaf in
    record {
      way = record { above = s.node ∷ h.way.above; leaf = h.way.leaf };
      is = ap (through_child (way_from k more leaves) k) s.is ∙ ap (λ q. through s.node (way_from k more leaves q)) (spot_child k low rows nodes s le f.1) ∙ ap (through s.node) h.is;
      moved = λ j g q from e start. goes k low rows nodes more leaves image le f.1 f.2 shows.0 s h j g q from b.gone_key refl e start;
      same = λ j. stays k low rows nodes more leaves image le f.1 f.2 shows.0 s h j b.gone_key refl;
    }

pub left_edge_is_next : LeftEdgeIsNext
left_edge_is_next root k tree image way is shows e =
    let h = edge_read k 0 (root_rows root) tree.above tree.leaves image (omega arith) refl (omega arith, tt, tt) (fits_from (root_rows root) tree.above tree.leaves is.levels)
    (λ p. let a = tree_counts tree p in let b = once p (tree_pages tree) is.distinct in omega (arith, a, b)) shows in
    let same : h.way ≡ way = some_is h.way way (sym h.is ∙ e) in
    let d = tree_sinks root k tree is in
    let slots = subst (λ (w : Way). sink 0 k w.above w.leaf ≡ sink_by_key 0 k w.above w.leaf) (some_is d.way way (sym d.is ∙ e)) (d.slots 0 refl) in
    subst (λ (c : Sink). left_edge image way.above c.above ≡ edge_nexts None way.above c.above) (sym slots)
    (subst (λ (w : Way). left_edge image w.above (sink_by_key 0 k w.above w.leaf).above ≡ edge_nexts None w.above (sink_by_key 0 k w.above w.leaf).above) same (h.same 0))
