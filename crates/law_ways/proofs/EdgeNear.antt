-- The left edge of a tree is apart from the page that keeps rows above it.
use Rattle.std.proofs.Common.{◌≡◌, ℕ, ◌+◌, ◌<◌, ◌≤◌, List, [], ◌∷◌, ◌++◌, Option, Some, None, refl, sym, ap, ◌∙◌, subst, arith}
use Rattle.std.proofs.lemmas.Bool.{eq-eqb}
use Rattle.spec_levels.specs.Levels.{Payload, Row, Node, rows_of, pages_of, first_page, IsLinked}
use Rattle.spec_ways.specs.Rows.{without, with_first_key}
use Rattle.spec_ways.specs.Ways.{child_toward, key_toward, Way, through, ending_at, through_child, way_from}
use Rattle.spec_ways.specs.Sinks.{loss_of, gone_key_of, Sink}
use Rattle.law_ways.specs.DeleteLaws.{edge_nexts}
use Rattle.law_ways.proofs.Bounds.{Within, rows_behind}
use Rattle.law_ways.proofs.ByKey.{edge_by_key, sink_through_by_key, sink_by_key}
use Rattle.law_ways.proofs.EdgeWrites.{AreApart, IsClear}
use Rattle.law_ways.proofs.Fits.{Level, Starts, StartsAt, Fits, count, all_pages}
use Rattle.law_ways.proofs.GrowLaws.{rows_start, starts_append, count_append}
use Rattle.law_ways.proofs.LeftEdge.{behind_is, one_row, no_rows, edge_is_first, keeps_rest}
use Rattle.law_ways.proofs.PathLaws.{Spot, spot_at, spot_child, spot_toward}
use Rattle.law_ways.proofs.PutLaws.{level_within}
use Rattle.law_ways.proofs.ShowLaws.{linked_at}
use Rattle.law_ways.proofs.SlotLaws.{gone_is}

-- each of these pages is one of those
abbrev AreNear : List ℕ → List ℕ → Type 0
AreNear pages [] = Unit {0}
AreNear pages (r ∷ rs) = (0 < count r pages) × AreNear pages rs

wider : (xs ys rs : List ℕ) → AreNear ys rs → AreNear (xs ++ ys) rs
wider xs ys [] near = tt
wider xs ys (r ∷ rs) near = (let e = count_append r xs ys in let f = near.0 in omega (arith, e, f), wider xs ys rs near.1)

apart_from : (q : ℕ) (pages rs : List ℕ) → count 0 pages ≡ 0 → count q pages ≡ 0 → AreNear pages rs → AreApart q rs
apart_from q pages [] zero none near = tt
apart_from q pages (r ∷ rs) zero none near = (
  λ same. let e = subst (λ j. 0 < count j pages) same near.0 in omega (arith, e, zero),
  λ same. let e = subst (λ j. 0 < count j pages) same near.0 in omega (arith, e, none),
  apart_from q pages rs zero none near.1,
)

counts_behind : {V : Type 0} (p : ℕ) (left : List (Node V)) (n : Node V) (right : List (Node V)) → count p (pages_of right) + count p (n.page ∷ []) ≤ count p (pages_of (left ++ n ∷ right))
counts_behind p [] n right = omega arith
counts_behind p (m ∷ ms) n right = let e = counts_behind p ms n right in omega (arith, e)

counted_once : (p : ℕ) (ps : List ℕ) → 0 < count p (p ∷ ps)
counted_once p ps = let e = eq-eqb p p refl in rw e (omega arith)

-- the first page of a level that rows name
first_near : {V : Type 0} (low : ℕ) (post : List (Row ℕ)) (right : List (Node V)) → StartsAt low post → Level None post right → 0 < count (first_page right) (pages_of right)
first_near low [] right at l = absurd at
first_near low (q ∷ post) [] at l = absurd l
first_near low (q ∷ post) (m ∷ ms) at l = counted_once m.page (pages_of ms)

rows_right : (low : ℕ) (post : List (Row ℕ)) (right : List (Node ℕ)) → StartsAt low post → Level None post right → Starts post right → (from : ℕ) × StartsAt from (rows_of right)
rows_right low [] right at l st = absurd at
rows_right low (q ∷ post) [] at l st = absurd l
rows_right low (q ∷ post) (m ∷ ms) at l st = (q.key, starts_append q.key m.rows (rows_of ms) st.0)

pub record EdgeClear (k : ℕ) (rows : List (Row ℕ)) (above : List (List (Node ℕ))) (leaves : List (Node Payload)) : Type 0 where
  pub way : Way
  pub is : way_from k above leaves (child_toward k rows) ≡ Some way
  pub near : (j g q from : ℕ) → (sink_by_key j k way.above way.leaf).gone_key ≡ Some q → StartsAt from (rows_behind (key_toward k rows) rows)
      → AreNear (all_pages above leaves) (edge_nexts (Some g) way.above (sink_by_key j k way.above way.leaf).above)
  pub clear : (j : ℕ) → IsClear way.above (sink_by_key j k way.above way.leaf).above

-- one level more
module _ (k low : ℕ) (rows : List (Row ℕ)) (nodes : List (Node ℕ)) (more : List (List (Node ℕ))) (leaves : List (Node Payload)) (le : low ≤ k) (st : Starts rows nodes) (links : IsLinked 0 nodes)
    (once : (p : ℕ) → count p (pages_of nodes ++ all_pages more leaves) ≤ 1) (zero : count 0 (all_pages more leaves) ≡ 0) (s : Spot k low rows nodes) (h : EdgeClear k (rows_of nodes) more leaves) where
  abbrev below : Sink
  below = sink_by_key (key_toward k s.node.rows) k h.way.above h.way.leaf

  key_is : (x : ℕ) → below.gone_key ≡ Some x → key_toward k (rows_of nodes) ≡ x
  key_is x e = sym (spot_toward (λ r. r.key) k low rows nodes s le st) ∙ gone_is (key_toward k s.node.rows) k h.way.above h.way.leaf x e

  next_near : (from : ℕ) → StartsAt from (rows_behind (key_toward k rows) rows) → 0 < count s.node.next (pages_of nodes)
  next_near from start =
      let near = first_near from (rows_behind s.key rows) s.right (subst (λ key. StartsAt from (rows_behind key rows)) s.key_is start) s.behind in
      let next = linked_at 0 s.left s.node s.right (subst (IsLinked 0) s.nodes_are links) in
      let e = counts_behind (first_page s.right) s.left s.node s.right in
      let f = ap (λ l. count (first_page s.right) (pages_of l)) s.nodes_are in
      subst (λ j. 0 < count j (pages_of nodes)) (sym next) (omega (arith, near, e, f))

  near_goes : (j g q from : ℕ) (o : Option ℕ) → below.gone_key ≡ o → (sink_through_by_key j s.node below o).gone_key ≡ Some q → StartsAt from (rows_behind (key_toward k rows) rows)
      → AreNear (pages_of nodes ++ all_pages more leaves) (edge_nexts (Some g) (s.node ∷ h.way.above) (sink_through_by_key j s.node below o).above)
  near_goes j g q from None is e start = absurd (cc)
  near_goes j g q from (Some x) is e start = by_rows (with_first_key j (without x s.node.rows)) refl e
    where
      by_rows : (rs : List (Row ℕ)) → with_first_key j (without x s.node.rows) ≡ rs → gone_key_of j (loss_of rs (edge_by_key x s.node.rows)) ≡ Some q
          → AreNear (pages_of nodes ++ all_pages more leaves) (edge_nexts (Some g) (s.node ∷ h.way.above) (loss_of rs (edge_by_key x s.node.rows) ∷ below.above))
      by_rows [] none e =
          let one = one_row k low rows nodes s le st x s.node.rows (s.starts st) (no_rows j (without x s.node.rows) none) in
          let post = behind_is k low rows nodes s le st one.0 [] one.1 (key_is x is ∙ one.2) in
          let right = rows_right from (rows_behind s.key rows) s.right (subst (λ key. StartsAt from (rows_behind key rows)) s.key_is start) s.behind (s.behind_starts st) in (
            let e = count_append s.node.next (pages_of nodes) (all_pages more leaves) in let f = next_near from start in omega (arith, e, f),
            wider (pages_of nodes) (all_pages more leaves) (edge_nexts (Some g) h.way.above below.above)
                (h.near (key_toward k s.node.rows) g x right.0 is (subst (StartsAt right.0) (sym post) right.1)),
          )
      by_rows (y ∷ ys) some e = absurd (cc)

  here_none : count s.node.page (all_pages more leaves) ≡ 0
  here_none =
      let e = once s.node.page in
      let f = count_append s.node.page (pages_of nodes) (all_pages more leaves) in
      let g = counts_behind s.node.page s.left s.node s.right in
      let i = ap (λ l. count s.node.page (pages_of l)) s.nodes_are in
      let j = counted_once s.node.page [] in omega (arith, e, f, g, i, j)

  clear_here : (j : ℕ) (o : Option ℕ) → below.gone_key ≡ o → IsClear (s.node ∷ h.way.above) (sink_through_by_key j s.node below o).above
  clear_here j None is = h.clear (key_toward k s.node.rows)
  clear_here j (Some x) is = by_rows (with_first_key j (without x s.node.rows)) refl (edge_by_key x s.node.rows) refl
    where
      by_rows : (rs : List (Row ℕ)) → with_first_key j (without x s.node.rows) ≡ rs → (e : Option ℕ) → edge_by_key x s.node.rows ≡ e → IsClear (s.node ∷ h.way.above) (loss_of rs e ∷ below.above)
      by_rows [] none e edge = tt
      by_rows (y ∷ ys) some None edge = tt
      by_rows (y ∷ ys) some (Some g) edge =
          let r = keeps_rest s.key x j s.node.rows y ys (s.starts st) (edge_is_first x g s.node.rows edge) some in
          let post = behind_is k low rows nodes s le st r.row r.rest r.is (key_is x is ∙ r.key) in
          apart_from s.node.page (all_pages more leaves) (edge_nexts (Some g) h.way.above below.above) zero here_none
          (h.near (key_toward k s.node.rows) g x r.low is (subst (StartsAt r.low) (sym post) (starts_append r.low r.rest (rows_of s.right) r.starts)))

pub edge_clear : (k low : ℕ) (rows : List (Row ℕ)) (above : List (List (Node ℕ))) (leaves : List (Node Payload)) → low ≤ k → StartsAt low rows → Within low None rows
    → Fits None rows above leaves → ((p : ℕ) → count p (all_pages above leaves) ≤ 1) → count 0 (all_pages above leaves) ≡ 0 → EdgeClear k rows above leaves
edge_clear k low rows [] leaves le at w f once zero =
    let s = spot_at k low rows leaves at w f.0 once in
    record { way = record { above = []; leaf = s.node }; is = ap ending_at s.is; near = λ j g q from e start. tt; clear = λ j. tt }
edge_clear k low rows (nodes ∷ more) leaves le at w f once zero =
    let counts = λ (p : ℕ). count_append p (pages_of nodes) (all_pages more leaves) in
    let s = spot_at k low rows nodes at w f.0 (λ p. let a = once p in let b = counts p in omega (arith, a, b)) in
    let none : count 0 (all_pages more leaves) ≡ 0 = (let b = counts 0 in omega (arith, b, zero)) in
    let h = edge_clear k low (rows_of nodes) more leaves le (rows_start low None rows nodes at f.0 f.1) (level_within low None rows nodes w f.0) f.3
    (λ p. let a = once p in let b = counts p in omega (arith, a, b)) none in
    let b = sink_by_key (key_toward k s.node.rows) k h.way.above h.way.leaf in
    record {
      way = record { above = s.node ∷ h.way.above; leaf = h.way.leaf };
      is = ap (through_child (way_from k more leaves) k) s.is ∙ ap (λ q. through s.node (way_from k more leaves q)) (spot_child k low rows nodes s le f.1) ∙ ap (through s.node) h.is;
      near = λ j g q from e start. near_goes k low rows nodes more leaves le f.1 f.2 once none s h j g q from b.gone_key refl e start;
      clear = λ j. clear_here k low rows nodes more leaves le f.1 f.2 once none s h j b.gone_key refl;
    }
