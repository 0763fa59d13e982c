-- A tree with one row more is a tree.
use Rattle.std.proofs.Common.{◌≡◌, ℕ, ◌≤◌, List, ◌++◌, length, Option, None, Contains, refl, sym, ap, ◌∙◌, subst, arith}
use Rattle.spec_levels.specs.Levels.{Row, Tree, keys_of, rows_of, tree_pages, AreDistinct, IsTree, Payload}
use Rattle.spec_ways.specs.Rows.{with_row, value_at}
use Rattle.spec_ways.specs.Climbs.{Climb, climb_of, taken_pages, IsStepped, AreStepped}
use Rattle.spec_ways.specs.Insert.{Cuts, Grown, root_rows, left_over, grown, raised, inserted, IsCut, AreFresh}
use Rattle.spec_ways.specs.InsertWrites.{insert_written}
use Rattle.spec_ways.specs.Pages.{Pages, Shows}
use Rattle.law_ways.proofs.Bridge.{fits_from, levels_from, counted, contains_from, once, distinct_from}
use Rattle.law_ways.proofs.Counts.{tree_counts, none_zero, no_count}
use Rattle.law_ways.proofs.Fits.{count, all_pages}
use Rattle.law_ways.proofs.RowValues.{with_value, with_others, with_keys}
use Rattle.law_ways.proofs.WayLaw.{contents_within, ways_lead}
use Rattle.law_ways.proofs.WayReads.{some_is}
use Rattle.law_ways.proofs.TakenPages.{taken_are_first}
use Rattle.spec_ways.specs.Ways.{Way}
use Rattle.law_ways.proofs.GrowLaws.{count_append}
use Rattle.law_ways.proofs.RaiseShows.{climb_top, insert_shows}
use Rattle.law_ways.proofs.StepLaws.{Climbs, climbs}
use Rattle.law_ways.specs.InsertLaws.{IsClimbed, IsInsertWritten, InsertKeeps, UpdateReplaces, InsertClimbs, InsertIsWritten}
use Rattle.law_ways.proofs.TopLaws as top
use Rattle.law_ways.proofs.ByKey.{climb_by_key}

-- the pages of the tree with the row, counted
new_counts : (cuts : Cuts) (fresh : List ℕ) (root : ℕ) (x : Row Payload) (tree : Tree) → IsCut cuts.leaf → IsCut cuts.index → IsTree root tree → AreFresh fresh tree
    → let t = inserted cuts fresh root x tree in ((p : ℕ) → count p (all_pages t.above t.leaves) ≤ 1) × (count 0 (all_pages t.above t.leaves) ≡ 0)
new_counts cuts fresh root x tree leaf index is new =
    let h = top.inserted_is cuts leaf index fresh root x tree (omega (arith, new.enough)) (fits_from (root_rows root) tree.above tree.leaves is.levels) in
    let before = tree_counts tree in (
      λ p. let a = h.added p in let b = before p in let d = once p (fresh ++ tree_pages tree) new.distinct in
          let e = count_append p fresh (tree_pages tree) in omega (arith, a, b, d, e),
      let a = h.added 0 in let b = before 0 in let d = none_zero fresh new.nonzero in let e = none_zero (tree_pages tree) is.nonzero in omega (arith, a, b, d, e),
    )

pub insert_keeps : InsertKeeps
insert_keeps cuts fresh root x tree leaf index is new =
    let t = inserted cuts fresh root x tree in
    let h = top.inserted_is cuts leaf index fresh root x tree (omega (arith, new.enough)) (fits_from (root_rows root) tree.above tree.leaves is.levels) in
    let before = tree_counts tree in
    let after = tree_counts t in
    let good = new_counts cuts fresh root x tree leaf index is new in
    record {
      is_tree = λ low. record {
        levels = levels_from (root_rows root) t.above t.leaves h.fits;
        distinct = distinct_from (tree_pages t) (λ p. let a = good.0 p in let b = after p in omega (arith, a, b));
        nonzero = λ has. let some = counted 0 (tree_pages t) has in let b = after 0 in omega (arith, good.1, b, some);
        height = low;
      };
      height = let a = h.height in omega (arith, a);
      contents = h.contents;
      kept = λ p has. contains_from p (tree_pages t) (let some = counted p (tree_pages tree) has in let a = h.kept p in let b = before p in let c = after p in omega (arith, a, b, c, some));
      added = λ p has. contains_from p (fresh ++ tree_pages tree)
          (let some = counted p (tree_pages t) has in let a = h.added p in let b = before p in let c = after p in
          let e = count_append p fresh (tree_pages tree) in omega (arith, a, b, c, e, some));
    }

pub update_replaces : UpdateReplaces
update_replaces cuts fresh root x tree old leaf index is new e =
    let t = inserted cuts fresh root x tree in
    let same : rows_of t.leaves ≡ with_row x (rows_of tree.leaves) = (insert_keeps cuts fresh root x tree leaf index is new).contents in
    record {
      keys = ap (λ l. keys_of l) same ∙ with_keys 0 None x (rows_of tree.leaves) old (contents_within root tree is) e;
      value = ap (value_at x.key) same ∙ with_value x (rows_of tree.leaves);
      others = λ key other. ap (value_at key) same ∙ with_others key x (rows_of tree.leaves) other;
    }

-- from what the steps of a way are to which pages there are
climbed : (root : ℕ) (fresh : List ℕ) (way : Way) (c : Climb) (tree t : Tree) (b : Grown) → AreStepped way.above c.above tree.above b.above → IsStepped way.leaf c.leaf tree.leaves b.leaves
    → b.separator ≡ c.separator → b.fresh ≡ c.fresh → t ≡ raised root b b.separator → (b.separator ≡ None → length t.above ≡ length tree.above) → taken_pages c ++ left_over c.separator c.fresh ≡ fresh
    → ((p : ℕ) → count p (tree_pages t ++ left_over b.separator b.fresh) ≡ count p (fresh ++ tree_pages tree)) → AreDistinct (fresh ++ tree_pages tree) → IsClimbed root fresh way c tree t
climbed root fresh way c tree t b above_steps leaf_steps separator fresh_is raises low takes exact distinct =
    let taken = taken_pages c in
    let rest = left_over c.separator c.fresh in
    let left_is : left_over b.separator b.fresh ≡ rest = ap (λ o. left_over o b.fresh) separator ∙ ap (left_over c.separator) fresh_is in
    let grows : (p : ℕ) → count p (tree_pages t) ≡ count p (taken ++ tree_pages tree) = λ p.
    let e = exact p in let f = ap (count p) takes in let g = ap (count p) left_is in let i = count_append p taken rest in
    let j = count_append p (tree_pages t) (left_over b.separator b.fresh) in
    let k = count_append p fresh (tree_pages tree) in let l = count_append p taken (tree_pages tree) in omega (arith, e, f, g, i, j, k, l) in
    record {
      levels = b;
      above_steps = above_steps;
      leaf_steps = leaf_steps;
      fresh_is = fresh_is;
      raises = raises ∙ ap (raised root b) separator;
      height = λ none. low (separator ∙ none);
      fresh_are = sym takes;
      pages_are = λ p. let e = grows p in (
        λ has. contains_from p (taken ++ tree_pages tree) (let some = counted p (tree_pages t) has in omega (arith, e, some)),
        λ has. contains_from p (tree_pages t) (let some = counted p (taken ++ tree_pages tree) has in omega (arith, e, some)),
      );
      apart = subst (λ (left : List ℕ). AreDistinct (tree_pages t ++ left)) {y = rest} left_is
          (distinct_from (tree_pages t ++ left_over b.separator b.fresh) (λ p. let e = exact p in let f = once p (fresh ++ tree_pages tree) distinct in omega (arith, e, f)));
    }

-- the climb of the tree's way
tree_climbs : (cuts : Cuts) → IsCut cuts.leaf → IsCut cuts.index → (fresh : List ℕ) (root : ℕ) (x : Row Payload) (tree : Tree) → IsTree root tree → AreFresh fresh tree
    → Climbs x.key (root_rows root) tree.above tree.leaves cuts fresh x (grown cuts fresh x (root_rows root) tree.above tree.leaves)
tree_climbs cuts leaf index fresh root x tree is new =
    climbs cuts leaf index fresh x 0 (omega arith) (root_rows root) tree.above tree.leaves refl (omega arith, tt, tt)
    (fits_from (root_rows root) tree.above tree.leaves is.levels) (omega (arith, new.enough))
    (λ p. let a = tree_counts tree p in let b = once p (tree_pages tree) is.distinct in omega (arith, a, b))

pub insert_climbs : InsertClimbs
insert_climbs cuts fresh root x tree way leaf index is new along =
    let b = grown cuts fresh x (root_rows root) tree.above tree.leaves in
    let t = inserted cuts fresh root x tree in
    let in_all = top.inserted_is cuts leaf index fresh root x tree (omega (arith, new.enough)) (fits_from (root_rows root) tree.above tree.leaves is.levels) in
    let h = tree_climbs cuts leaf index fresh root x tree is new in
    let exact : (p : ℕ) → count p (tree_pages t ++ left_over b.separator b.fresh) ≡ count p (fresh ++ tree_pages tree) = λ p.
    let i = in_all.exact p in let j = tree_counts t p in let k = tree_counts tree p in let l = count_append p (tree_pages t) (left_over b.separator b.fresh) in
    let m = count_append p fresh (tree_pages tree) in omega (arith, i, j, k, l, m) in
    let lead = ways_lead root x.key tree is in
    let long : length h.way.above ≡ length tree.above = subst (λ (w : Way). length w.above ≡ length tree.above) (some_is lead.way h.way (sym lead.is ∙ h.is)) lead.long in
    let takes = taken_are_first cuts fresh x h.way.above h.way.leaf (let e = new.enough in omega (arith, e, long)) in
    subst (λ (w : Way). IsClimbed root fresh w (climb_of cuts fresh x w) tree t) (some_is h.way way (sym h.is ∙ along))
    (subst (λ (c : Climb). IsClimbed root fresh h.way c tree t) (sym h.slots)
    (climbed root fresh h.way (climb_by_key cuts fresh x h.way.above h.way.leaf) tree t b h.above_steps h.leaf_steps h.separator h.fresh_is refl in_all.low
    (subst (λ (c : Climb). taken_pages c ++ left_over c.separator c.fresh ≡ fresh) h.slots takes) exact new.distinct))

written : (root : ℕ) (way : Way) (c : Climb) (image : Pages) (t : Tree) (o : Option (Row ℕ)) → o ≡ c.separator → Shows (insert_written root way c o image) t.above t.leaves
    → ((p : ℕ) → (Contains (tree_pages t) p → ⊥) → insert_written root way c o image p ≡ image p) → IsInsertWritten root way c image t
written root way c image t o e shows same = record {
  shows = subst (λ o. Shows (insert_written root way c o image) t.above t.leaves) e shows;
  same = λ p none. subst (λ o. insert_written root way c o image p ≡ image p) e (same p none);
}

pub insert_is_written : InsertIsWritten
insert_is_written cuts fresh root x tree image way leaf index is new s along =
    let b = grown cuts fresh x (root_rows root) tree.above tree.leaves in
    let h = tree_climbs cuts leaf index fresh root x tree is new in
    let c = climb_by_key cuts fresh x h.way.above h.way.leaf in
    let good = new_counts cuts fresh root x tree leaf index is new in
    let t = inserted cuts fresh root x tree in
    let r = insert_shows root h.way c b tree image b.separator (fits_from (root_rows root) tree.above tree.leaves is.levels) h.above_steps h.leaf_steps h.fresh_is
    (climb_top cuts fresh x h.way.above h.way.leaf ∙ sym h.separator) s good.0 good.1 in
    subst (λ (w : Way). IsInsertWritten root w (climb_of cuts fresh x w) image t) (some_is h.way way (sym h.is ∙ along))
    (subst (λ (c : Climb). IsInsertWritten root h.way c image t) (sym h.slots)
    (written root h.way c image t b.separator h.separator r.shows (λ p none. r.same p (tree_counts t p ∙ no_count (tree_pages t) p none))))
