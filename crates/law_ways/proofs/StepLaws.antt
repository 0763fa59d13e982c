-- A row put into a tree changes the pages on the way to its leaf as these pages tell, and the next of each page that
-- is split.
use Rattle.std.proofs.Common.{◌≡◌, ℕ, ◌<◌, ◌≤◌, List, [], ◌∷◌, ◌++◌, length, Option, Some, None, refl, sym, ap, ◌∙◌, subst, arith}
use Rattle.spec_levels.specs.Levels.{Row, Node, rows_of, pages_of, first_page, IsLinked, Payload}
use Rattle.spec_ways.specs.Climbs.{Step, Stays, Grows, Splits, step_of, separator_of, Climb, with_first_prev, after_step, behind_step, IsStepped, AreStepped}
use Rattle.spec_ways.specs.Insert.{linked, Cut, Cuts, Put, cut_page, put_row, Grown, first_fresh, left_over, with_separator, grown, IsCut}
use Rattle.spec_ways.specs.Rows.{with_row}
use Rattle.spec_ways.specs.Ways.{child_toward, Way, through, ending_at, through_child, way_from}
use Rattle.law_ways.proofs.Bounds.{Within}
use Rattle.law_ways.proofs.Fits.{Level, StartsAt, Fits, count, all_pages}
use Rattle.law_ways.proofs.GrowLaws.{rows_start, count_append, alike_front, alike_behind, alike_up, grown_is}
use Rattle.law_ways.proofs.SlotLaws.{behind_at, climb_same}
use Rattle.spec_ways.specs.Climbs.{climb}
use Rattle.law_ways.proofs.PathLaws.{onto, Spot, spot_at, spot_rows, spot_toward, spot_child}
use Rattle.law_ways.proofs.PutLaws.{level_within, AreAlike}
use Rattle.law_ways.proofs.ByKey.{climb_through_by_key, climb_by_key}

module _ {V : Type 0} where
  pub linked_same : (b : ℕ) (nodes : List (Node V)) → IsLinked b nodes → linked b nodes ≡ nodes
  linked_same b [] l = refl
  linked_same b (n ∷ ns) l =
      ap (λ (q : ℕ). record { page = n.page; prev = q; next = first_page ns; rows = n.rows } ∷ linked n.page ns) (sym l.0)
      ∙ ap (λ (q : ℕ). record { page = n.page; prev = n.prev; next = q; rows = n.rows } ∷ linked n.page ns) (sym l.1)
      ∙ ap (λ l. n ∷ l) (linked_same n.page ns l.2)

  linked_behind : (b q : ℕ) (nodes : List (Node V)) → IsLinked b nodes → linked q nodes ≡ with_first_prev q nodes
  linked_behind b q [] l = refl
  linked_behind b q (n ∷ ns) l =
      ap (λ (p : ℕ). record { page = n.page; prev = q; next = p; rows = n.rows } ∷ linked n.page ns) (sym l.1)
      ∙ ap (λ l. record { page = n.page; prev = q; next = n.next; rows = n.rows } ∷ l) (linked_same n.page ns l.2)

  first_made : (left right right' : List (Node V)) (n : Node V) (step : Step V) → first_page (left ++ (after_step step n ++ right')) ≡ first_page (left ++ n ∷ right)
  first_made [] right right' n Stays = refl
  first_made [] right right' n (Grows rows) = refl
  first_made [] right right' n (Splits rows q more) = refl
  first_made (m ∷ ms) right right' n step = refl

  -- what linking the pages again changes
  pub linked_step : (b : ℕ) (left : List (Node V)) (n : Node V) (right : List (Node V)) (step : Step V) → IsLinked b (left ++ n ∷ right)
      → linked b (left ++ (after_step step n ++ right)) ≡ left ++ (after_step step n ++ behind_step step right)
  linked_step b [] n right Stays l = linked_same b (n ∷ right) l
  linked_step b [] n right (Grows rows) l =
      ap (λ (q : ℕ). record { page = n.page; prev = q; next = first_page right; rows = rows } ∷ linked n.page right) (sym l.0)
      ∙ ap (λ (q : ℕ). record { page = n.page; prev = n.prev; next = q; rows = rows } ∷ linked n.page right) (sym l.1)
      ∙ ap (λ l. record { page = n.page; prev = n.prev; next = n.next; rows = rows } ∷ l) (linked_same n.page right l.2)
  linked_step b [] n right (Splits rows q more) l =
      ap (λ (p : ℕ). record { page = n.page; prev = p; next = q; rows = rows } ∷ record { page = q; prev = n.page; next = first_page right; rows = more } ∷ linked q right) (sym l.0)
      ∙ ap (λ (p : ℕ). record { page = n.page; prev = n.prev; next = q; rows = rows } ∷ record { page = q; prev = n.page; next = p; rows = more } ∷ linked q right) (sym l.1)
      ∙ ap (λ l. record { page = n.page; prev = n.prev; next = q; rows = rows } ∷ record { page = q; prev = n.page; next = n.next; rows = more } ∷ l) (linked_behind n.page q right l.2)
  linked_step b (m ∷ ms) n right step l =
      let rest = ms ++ (after_step step n ++ right) in
      ap (λ (q : ℕ). record { page = m.page; prev = q; next = first_page rest; rows = m.rows } ∷ linked m.page rest) (sym l.0)
      ∙ ap (λ (q : ℕ). record { page = m.page; prev = m.prev; next = q; rows = m.rows } ∷ linked m.page rest) (first_made ms right right n step ∙ sym l.1)
      ∙ ap (λ l. m ∷ l) (linked_step m.page ms n right step l.2)

  cut_page_step : (o : Option ℕ) (new : ℕ) (n : Node V) (rows : List (Row V)) (right : List (Node V))
      → cut_page o new n rows right ≡ record { nodes = after_step (step_of o new rows) n ++ right; separator = separator_of (step_of o new rows) }
  cut_page_step None new n rows right = refl
  cut_page_step (Some m) new n rows right = refl

  -- a row put into a level
  record PutSteps (k low : ℕ) (rows : List (Row ℕ)) (nodes : List (Node V)) (n : Node V) (step : Step V) (c : Put V) : Type 0 where
    stepped : IsStepped n step nodes (linked 0 c.nodes)
    separator : c.separator ≡ separator_of step

  put_steps : (k low : ℕ) (rows : List (Row ℕ)) (nodes : List (Node V)) (s : Spot k low rows nodes) → IsLinked 0 nodes → (cut : Cut V) (new : ℕ) (x : Row V) → AreAlike k x.key rows
      → PutSteps k low rows nodes s.node (step_of (cut (with_row x s.node.rows)) new (with_row x s.node.rows)) (put_row cut new x rows nodes)
  put_steps k low rows nodes s links cut new x alike =
      let rs = with_row x s.node.rows in
      let step = step_of (cut rs) new rs in
      let is : put_row cut new x rows nodes ≡ record { nodes = s.left ++ (after_step step s.node ++ s.right); separator = separator_of step } =
      s.puts cut new x alike ∙ ap (onto s.left) (cut_page_step (cut rs) new s.node rs s.right) in
      record {
        stepped = record {
          left = s.left;
          right = s.right;
          was = s.nodes_are;
          is = ap (λ (c : Put V). linked 0 c.nodes) is ∙ linked_step 0 s.left s.node s.right step (subst (IsLinked 0) s.nodes_are links);
        };
        separator = ap (λ (c : Put V). c.separator) is;
      }

pub alike_same : (k : ℕ) (rows : List (Row ℕ)) → AreAlike k k rows
alike_same k [] = tt
alike_same k (r ∷ rest) = (refl, alike_same k rest)

-- a row put into levels
pub record Climbs (k : ℕ) (rows : List (Row ℕ)) (above : List (List (Node ℕ))) (leaves : List (Node Payload)) (cuts : Cuts) (fresh : List ℕ) (x : Row Payload) (b : Grown) : Type 0 where
  pub way : Way
  pub is : way_from k above leaves (child_toward k rows) ≡ Some way
  pub above_steps : AreStepped way.above (climb_by_key cuts fresh x way.above way.leaf).above above b.above
  pub leaf_steps : IsStepped way.leaf (climb_by_key cuts fresh x way.above way.leaf).leaf leaves b.leaves
  pub separator : b.separator ≡ (climb_by_key cuts fresh x way.above way.leaf).separator
  pub fresh_is : b.fresh ≡ (climb_by_key cuts fresh x way.above way.leaf).fresh
  pub slots : climb cuts fresh x way.above way.leaf ≡ climb_by_key cuts fresh x way.above way.leaf

module _ (cuts : Cuts) (sound_leaf : IsCut cuts.leaf) (sound_index : IsCut cuts.index) (fresh : List ℕ) (x : Row Payload) (low : ℕ) (le : low ≤ x.key) where
  climbs_leaves : (rows : List (Row ℕ)) (leaves : List (Node Payload)) → StartsAt low rows → Within low None rows → Level None rows leaves → IsLinked 0 leaves
      → ((p : ℕ) → count p (pages_of leaves) ≤ 1) → Climbs x.key rows [] leaves cuts fresh x (grown cuts fresh x rows [] leaves)
  climbs_leaves rows leaves at w l links once =
      let s = spot_at x.key low rows leaves at w l once in
      let h = put_steps x.key low rows leaves s links cuts.leaf (first_fresh fresh) x (alike_same x.key rows) in
      record {
        way = record { above = []; leaf = s.node };
        is = ap ending_at s.is;
        above_steps = tt;
        leaf_steps = h.stepped;
        separator = h.separator;
        fresh_is = ap (λ o. left_over o fresh) h.separator;
        slots = refl;
      }

  -- one level more, where the row that comes from below is the way's
  record Rises (rows : List (Row ℕ)) (nodes : List (Node ℕ)) (more : List (List (Node ℕ))) (n : Node ℕ) (ns : List (Node ℕ)) (b : Grown) (c : Climb) (o : Option (Row ℕ)) : Type 0 where
    above_steps : AreStepped (n ∷ ns) (climb_through_by_key cuts.index n c o).above (nodes ∷ more) (with_separator cuts.index rows nodes b o).above
    leaf_is : (climb_through_by_key cuts.index n c o).leaf ≡ c.leaf
    leaves_are : (with_separator cuts.index rows nodes b o).leaves ≡ b.leaves
    separator : (with_separator cuts.index rows nodes b o).separator ≡ (climb_through_by_key cuts.index n c o).separator
    fresh_is : (with_separator cuts.index rows nodes b o).fresh ≡ (climb_through_by_key cuts.index n c o).fresh

  rises : (rows : List (Row ℕ)) (nodes : List (Node ℕ)) (more : List (List (Node ℕ))) (s : Spot x.key low rows nodes) → IsLinked 0 nodes
      → (ns : List (Node ℕ)) (b : Grown) (c : Climb) (o : Option (Row ℕ))
      → AreStepped ns c.above more b.above → b.fresh ≡ c.fresh → ((u : Row ℕ) → o ≡ Some u → AreAlike x.key u.key rows) → Rises rows nodes more s.node ns b c o
  rises rows nodes more s links ns b c None steps same alike = record {
    above_steps = (record { left = s.left; right = s.right; was = s.nodes_are; is = s.nodes_are }, steps);
    leaf_is = refl;
    leaves_are = refl;
    separator = refl;
    fresh_is = same;
  }
  rises rows nodes more s links ns b c (Some y) steps same alike =
      let rs = with_row y s.node.rows in
      let h = put_steps x.key low rows nodes s links cuts.index (first_fresh b.fresh) y (alike y refl) in
      let step = λ (f : List ℕ). step_of (cuts.index rs) (first_fresh f) rs in
      record {
        above_steps = (subst (λ f. IsStepped s.node (step f) nodes (linked 0 (put_row cuts.index (first_fresh b.fresh) y rows nodes).nodes)) same h.stepped, steps);
        leaf_is = refl;
        leaves_are = refl;
        separator = h.separator ∙ ap (λ f. separator_of (step f)) same;
        fresh_is = ap (λ o. left_over o b.fresh) h.separator ∙ ap (λ f. left_over (separator_of (step f)) f) same;
      }

  pub climbs : (rows : List (Row ℕ)) (above : List (List (Node ℕ))) (leaves : List (Node Payload)) → StartsAt low rows → Within low None rows → Fits None rows above leaves
      → length above < length fresh → ((p : ℕ) → count p (all_pages above leaves) ≤ 1) → Climbs x.key rows above leaves cuts fresh x (grown cuts fresh x rows above leaves)
  climbs rows [] leaves at w f many once = climbs_leaves rows leaves at w f.0 f.1 once
  climbs rows (nodes ∷ more) leaves at w f many once =
      let counts = λ (p : ℕ). count_append p (pages_of nodes) (all_pages more leaves) in
      let s = spot_at x.key low rows nodes at w f.0 (λ p. let a = once p in let b = counts p in omega (arith, a, b)) in
      let at_more = rows_start low None rows nodes at f.0 f.1 in
      let within_more = level_within low None rows nodes w f.0 in
      let b = grown cuts fresh x (rows_of nodes) more leaves in
      let h = climbs (rows_of nodes) more leaves at_more within_more f.3 (omega (arith, many)) (λ p. let a = once p in let b = counts p in omega (arith, a, b)) in
      let c = climb_by_key cuts fresh x h.way.above h.way.leaf in
      let g = grown_is cuts sound_leaf sound_index x low None tt le fresh (rows_of nodes) more leaves at_more within_more f.3 (omega (arith, many)) in
      let r = rises rows nodes more s f.2 h.way.above b c b.separator h.above_steps h.fresh_is (λ u e. alike_up x.key u.key None rows nodes f.0 f.1 (g.alike u e)) in
      record {
        way = record { above = s.node ∷ h.way.above; leaf = h.way.leaf };
        is = ap (through_child (way_from x.key more leaves) x.key) s.is ∙ ap (λ q. through s.node (way_from x.key more leaves q)) (spot_child x.key low rows nodes s le f.1) ∙ ap (through s.node) h.is;
        above_steps = subst (λ o. AreStepped (s.node ∷ h.way.above) (climb_through_by_key cuts.index s.node c o).above (nodes ∷ more)
            (with_separator cuts.index rows nodes b b.separator).above) h.separator r.above_steps;
        leaf_steps = subst (λ o. IsStepped h.way.leaf (climb_through_by_key cuts.index s.node c o).leaf leaves (with_separator cuts.index rows nodes b b.separator).leaves) h.separator
            (subst (λ step. IsStepped h.way.leaf step leaves (with_separator cuts.index rows nodes b b.separator).leaves) (sym r.leaf_is)
            (subst (IsStepped h.way.leaf c.leaf leaves) (sym r.leaves_are) h.leaf_steps));
        separator = r.separator ∙ ap (λ o. (climb_through_by_key cuts.index s.node c o).separator) h.separator;
        fresh_is = r.fresh_is ∙ ap (λ o. (climb_through_by_key cuts.index s.node c o).fresh) h.separator;
        slots = climb_same cuts.index x.key s.node (climb cuts fresh x h.way.above h.way.leaf) c h.slots (λ y e.
            behind_at s.key x.key s.bound y s.node.rows (s.starts f.1) s.within (alike_front x.key y.key s.node.rows (rows_of s.right)
            (alike_behind x.key y.key (rows_of s.left) (s.node.rows ++ rows_of s.right) (subst (AreAlike x.key y.key) (spot_rows x.key low rows nodes s) (g.alike y (h.separator ∙ e)))))
            (let i = spot_toward (λ z. z.key) x.key low rows nodes s le f.1 in let j = g.higher y (h.separator ∙ e) in omega (arith, i, j)));
      }
