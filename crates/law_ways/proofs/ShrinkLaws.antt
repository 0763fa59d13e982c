-- A row taken from a leaf, and what leaves the levels above.
use Rattle.std.proofs.Common.{◌≡◌, ℕ, suc, ◌+◌, ◌≤◌, ◌==◌, true, false, List, [], ◌∷◌, ◌++◌, length, Option, Some, None, refl, sym, ap, ◌∙◌, subst, inl, inr, arith}
use Rattle.std.proofs.lemmas.Bool.{cases_Bool, eqb-true, eq-eqb}
use Rattle.spec_levels.specs.Levels.{Row, Node, Tree, rows_of, IsLinked, pages_of, Payload}
use Rattle.spec_ways.specs.Delete.{take_row, leaf_without, index_without, with_first_keys, with_left_edges, Shrunk, below_loss, without_separator, shrunk, collapsed, lowered, deleted}
use Rattle.spec_ways.specs.Insert.{linked, root_rows}
use Rattle.spec_ways.specs.Rows.{without}
use Rattle.law_ways.proofs.Bounds.{Within, shifted, HasKey}
use Rattle.law_ways.proofs.Fits.{Level, Starts, StartsAt, Fits, count, all_pages}
use Rattle.law_ways.proofs.GrowLaws.{linked_is, linked_rows, linked_pages, linked_level, linked_starts, rows_start, count_append}
use Rattle.law_ways.proofs.PutLaws.{level_within}
use Rattle.law_ways.proofs.TakeLaws.{first_keys_same, first_keys_linked, first_keys_pages, IsLeft, leaf_taken_at, IsCutOut, index_out_at}
use Rattle.law_ways.proofs.TopLaws.{top_is, level_pages}

-- the edge of levels whose pages begin with their keys
pub edges_same : (rows : List (Row ℕ)) (above : List (List (Node ℕ))) (leaves : List (Node Payload)) → Fits None rows above leaves → with_left_edges rows above ≡ above
edges_same rows [] leaves f = refl
edges_same rows (nodes ∷ more) leaves f =
    ap (λ (ns : List (Node ℕ)). ns ∷ with_left_edges (rows_of ns) more) (first_keys_same rows nodes f.1) ∙ ap (λ l. nodes ∷ l) (edges_same (rows_of nodes) more leaves f.3)

edges_pages : (rows : List (Row ℕ)) (above : List (List (Node ℕ))) (leaves : List (Node Payload)) → all_pages (with_left_edges rows above) leaves ≡ all_pages above leaves
edges_pages rows [] leaves = refl
edges_pages rows (nodes ∷ more) leaves =
    ap (λ l. l ++ all_pages (with_left_edges (rows_of (with_first_keys rows nodes)) more) leaves) (first_keys_pages rows nodes)
    ∙ ap (λ l. pages_of nodes ++ l) (edges_pages (rows_of (with_first_keys rows nodes)) more leaves)

edges_height : (rows : List (Row ℕ)) (above : List (List (Node ℕ))) → length (with_left_edges rows above) ≡ length above
edges_height rows [] = refl
edges_height rows (nodes ∷ more) = ap suc (edges_height (rows_of (with_first_keys rows nodes)) more)

below_loss_pages : (o : Option ℕ) (rows : List (Row ℕ)) (below : List (List (Node ℕ))) (leaves : List (Node Payload)) → all_pages (below_loss o rows below) leaves ≡ all_pages below leaves
below_loss_pages None rows below leaves = edges_pages rows below leaves
below_loss_pages (Some k) rows below leaves = refl

below_loss_height : (o : Option ℕ) (rows : List (Row ℕ)) (below : List (List (Node ℕ))) → length (below_loss o rows below) ≡ length below
below_loss_height None rows below = edges_height rows below
below_loss_height (Some k) rows below = refl

-- a row leaves the level above
pub record IsLess (rows : List (Row ℕ)) (g : ℕ) (above : List (List (Node ℕ))) (leaves : List (Node Payload)) : Type 0 where
  pub has : HasKey g rows
  pub fits : Fits None (without g rows) above leaves
  pub next : Fits None (shifted g rows) (with_left_edges (shifted g rows) above) leaves

abbrev pub IsLower : List (Row ℕ) → List (List (Node ℕ)) → List (Node Payload) → Option ℕ → Type 0
IsLower rows above leaves None = Fits None rows above leaves
IsLower rows above leaves (Some g) = IsLess rows g above leaves

pub record IsShrunk (k : ℕ) (rows : List (Row ℕ)) (above : List (List (Node ℕ))) (leaves : List (Node Payload)) (b : Shrunk) (o : Option ℕ) : Type 0 where
  pub contents : rows_of b.leaves ≡ without k (rows_of leaves)
  pub fewer : (p : ℕ) → count p (all_pages b.above b.leaves) ≤ count p (all_pages above leaves)
  pub height : length b.above ≡ length above
  pub lower : IsLower rows b.above b.leaves o

leaves_lower : (rows : List (Row ℕ)) (nodes : List (Node Payload)) (o : Option ℕ) → IsLeft rows nodes o → IsLower rows [] (linked 0 nodes) o
leaves_lower rows nodes None h = (linked_level 0 None rows nodes h, linked_is 0 nodes)
leaves_lower rows nodes (Some g) h = record {
  has = h.has;
  fits = (linked_level 0 None (without g rows) nodes h.level, linked_is 0 nodes);
  next = (linked_level 0 None (shifted g rows) nodes h.next, linked_is 0 nodes);
}

abbrev Stands : List (Row ℕ) → List (Node ℕ) → List (List (Node ℕ)) → List (Node Payload) → Type 0
Stands rows nodes below leaves = Level None rows nodes × Starts rows nodes × IsLinked 0 nodes × Fits None (rows_of nodes) (with_left_edges (rows_of nodes) below) leaves

level_lower : (g : ℕ) (rows : List (Row ℕ)) (nodes nodes' : List (Node ℕ)) (below : List (List (Node ℕ))) (leaves : List (Node Payload)) (o : Option ℕ) → IsCutOut g rows nodes nodes' o
    → IsLess (rows_of nodes) g below leaves → IsLower rows (linked 0 nodes' ∷ below_loss o (rows_of nodes') below) leaves o
level_lower g rows nodes nodes' below leaves None h b = (
  linked_level 0 None rows nodes' h.level,
  linked_starts 0 rows nodes' h.starts,
  linked_is 0 nodes',
  subst (λ R. Fits None R (with_left_edges (rows_of nodes') below) leaves) (sym (linked_rows 0 nodes')) (elim h.rows_are [
    | inl e ↦ subst (λ R. Fits None R (with_left_edges R below) leaves) (sym e.1) b.next
    | inr e ↦
        let f = subst (λ R. Fits None R below leaves) (sym e.1) b.fits in
        subst (λ l. Fits None (rows_of nodes') l leaves) (sym (edges_same (rows_of nodes') below leaves f)) f
  ]),
)
level_lower g rows nodes nodes' below leaves (Some q) h b =
    let S = shifted g rows in
    subst (λ j. IsLess rows j (linked 0 nodes' ∷ below) leaves) (sym h.same) (record {
      has = h.has;
      fits = (
        linked_level 0 None (without g rows) nodes' h.level,
        linked_starts 0 (without g rows) nodes' h.starts,
        linked_is 0 nodes',
        subst (λ R. Fits None R below leaves) (sym (linked_rows 0 nodes' ∙ h.rows_are)) b.fits,
      );
      next = subst (λ N. Stands S N below leaves) (sym (first_keys_linked 0 S nodes')) (
        linked_level 0 None S (with_first_keys S nodes') h.next,
        linked_starts 0 S (with_first_keys S nodes') h.next_starts,
        linked_is 0 (with_first_keys S nodes'),
        subst (λ R. Fits None R (with_left_edges R below) leaves) (sym (linked_rows 0 (with_first_keys S nodes') ∙ h.next_rows)) b.next,
      );
    })

sunk_is : (k low : ℕ) (rows : List (Row ℕ)) (nodes : List (Node ℕ)) (more : List (List (Node ℕ))) (leaves : List (Node Payload)) → StartsAt low rows → Within low None rows
    → Level None rows nodes → Starts rows nodes → IsLinked 0 nodes → (b : Shrunk) (o : Option ℕ) → IsShrunk k (rows_of nodes) more leaves b o
    → let t = without_separator rows nodes b o in IsShrunk k rows (nodes ∷ more) leaves t t.gone_key
sunk_is k low rows nodes more leaves at w l s linked b None h = record {
  contents = h.contents;
  fewer = λ p.
      let e = h.fewer p in
      let f = count_append p (pages_of nodes) (all_pages more leaves) in
      let g = count_append p (pages_of nodes) (all_pages b.above b.leaves) in omega (arith, e, f, g);
  height = ap suc h.height;
  lower = (l, s, linked, h.lower);
}
sunk_is k low rows nodes more leaves at w l s is_linked b (Some g) h =
    let c = take_row (index_without g) g rows nodes in
    let out = index_out_at g low rows nodes at w l s in
    let below = below_loss c.gone_key (rows_of c.nodes) b.above in
    record {
      contents = h.contents;
      fewer = λ p.
          let e = h.fewer p in
          let f = count_append p (pages_of nodes) (all_pages more leaves) in
          let i = count_append p (pages_of (linked 0 c.nodes)) (all_pages below b.leaves) in
          let j = ap (count p) (linked_pages 0 c.nodes) in
          let m = ap (count p) (below_loss_pages c.gone_key (rows_of c.nodes) b.above b.leaves) in
          let n = out.fewer p in omega (arith, e, f, i, j, m, n);
      height = ap suc (below_loss_height c.gone_key (rows_of c.nodes) b.above ∙ h.height);
      lower = level_lower g rows nodes c.nodes b.above b.leaves c.gone_key out.left h.lower;
    }

pub shrunk_is : (k low : ℕ) (rows : List (Row ℕ)) (above : List (List (Node ℕ))) (leaves : List (Node Payload)) → StartsAt low rows → Within low None rows → Fits None rows above leaves
    → let b = shrunk k rows above leaves in IsShrunk k rows above leaves b b.gone_key
shrunk_is k low rows [] leaves at w f =
    let c = take_row (leaf_without k) k rows leaves in
    let is = leaf_taken_at k low rows leaves at w f.0 in
    record {
      contents = linked_rows 0 c.nodes ∙ is.contents;
      fewer = λ p. let e = is.fewer p in let g = ap (count p) (linked_pages 0 c.nodes) in omega (arith, e, g);
      height = refl;
      lower = leaves_lower rows c.nodes c.gone_key is.left;
    }
shrunk_is k low rows (nodes ∷ more) leaves at w f =
    let b = shrunk k (rows_of nodes) more leaves in
    sunk_is k low rows nodes more leaves at w f.0 f.1 f.2 b b.gone_key
    (shrunk_is k low (rows_of nodes) more leaves (rows_start low None rows nodes at f.0 f.1) (level_within low None rows nodes w f.0) f.3)

-- levels under one row, when those with one row are gone
pub record IsCollapsed (low page : ℕ) (above : List (List (Node ℕ))) (leaves : List (Node Payload)) (t : Tree) : Type 0 where
  pub page' : ℕ
  fits : Fits None (record { key = low; value = page' } ∷ []) t.above t.leaves
  contents : rows_of t.leaves ≡ rows_of leaves
  fewer : (p : ℕ) → count p (all_pages t.above t.leaves) + count p (page ∷ []) ≤ count p (all_pages above leaves) + count p (page' ∷ [])
  height : length t.above ≤ length above

pub one_page : {V : Type 0} (low page : ℕ) (nodes : List (Node V)) → Level None (record { key = low; value = page } ∷ []) nodes → pages_of nodes ≡ page ∷ []
one_page low page nodes l = level_pages None (record { key = low; value = page } ∷ []) nodes l

pub single : (low : ℕ) (rows : List (Row ℕ)) → StartsAt low rows → length rows ≡ 1 → (q : ℕ) × (rows ≡ record { key = low; value = q } ∷ [])
single low [] s one = absurd s
single low (r ∷ []) s one = (r.value, ap (λ (k : ℕ). record { key = k; value = r.value } ∷ []) s)
single low (r ∷ q ∷ rest) s one = absurd (omega (arith, one))

pub collapsed_is : (low page : ℕ) (above : List (List (Node ℕ))) (leaves : List (Node Payload)) → Fits None (record { key = low; value = page } ∷ []) above leaves
    → IsCollapsed low page above leaves (collapsed above leaves)
collapsed_is low page [] leaves f = record { page' = page; fits = f; contents = refl; fewer = λ p. omega arith; height = omega arith }
collapsed_is low page (nodes ∷ more) leaves f = elim (cases_Bool (length (rows_of nodes) == 1)) [
  | inl one ↦
      let row = single low (rows_of nodes) (rows_start low None (record { key = low; value = page } ∷ []) nodes refl f.0 f.1) (eqb-true (length (rows_of nodes)) 1 one) in
      let h = collapsed_is low row.0 more leaves (subst (λ R. Fits None R more leaves) row.1 f.3) in
      subst (IsCollapsed low page (nodes ∷ more) leaves) (sym (goes one)) (record {
        page' = h.page';
        fits = h.fits;
        contents = h.contents;
        fewer = λ p.
            let e = h.fewer p in let g = ap (count p) (one_page low page nodes f.0) in
            let i = count_append p (pages_of nodes) (all_pages more leaves) in omega (arith, e, g, i);
        height = let e = h.height in omega (arith, e);
      })
  | inr other ↦ subst (IsCollapsed low page (nodes ∷ more) leaves) (sym (stays other))
      (record { page' = page; fits = f; contents = refl; fewer = λ p. omega arith; height = omega arith })
]
  where
    goes : (length (rows_of nodes) == 1) ≡ true → collapsed (nodes ∷ more) leaves ≡ collapsed more leaves
    goes e = rw e refl

    stays : (length (rows_of nodes) == 1) ≡ false → collapsed (nodes ∷ more) leaves ≡ record { above = nodes ∷ more; leaves = leaves }
    stays e = rw e refl

-- levels under no row have no row
nothing_under : (above : List (List (Node ℕ))) (leaves : List (Node Payload)) → Fits None [] above leaves → rows_of leaves ≡ []
nothing_under [] [] f = refl
nothing_under [] (n ∷ ns) f = absurd f.0
nothing_under ([] ∷ more) leaves f = nothing_under more leaves f.3
nothing_under ((n ∷ ns) ∷ more) leaves f = absurd f.0

-- what taking a row from a tree does
pub record IsDeleted (root k : ℕ) (tree t : Tree) : Type 0 where
  pub fits : Fits None (root_rows root) t.above t.leaves
  pub contents : rows_of t.leaves ≡ without k (rows_of tree.leaves)
  pub fewer : (p : ℕ) → count p (all_pages t.above t.leaves) ≤ count p (all_pages tree.above tree.leaves)
  pub height : length t.above ≤ length tree.above

pub root_counts : (root p : ℕ) (above : List (List (Node ℕ))) (leaves : List (Node Payload)) → Fits None (root_rows root) above leaves → count p (root ∷ []) ≤ count p (all_pages above leaves)
root_counts root p [] leaves f = let e = ap (count p) (one_page 0 root leaves f.0) in omega (arith, e)
root_counts root p (nodes ∷ more) leaves f =
    let e = ap (count p) (one_page 0 root nodes f.0) in let g = count_append p (pages_of nodes) (all_pages more leaves) in omega (arith, e, g)

lowered_is : (root k : ℕ) (tree : Tree) (b : Shrunk) (o : Option ℕ) → Fits None (root_rows root) tree.above tree.leaves → IsShrunk k (root_rows root) tree.above tree.leaves b o
    → IsDeleted root k tree (lowered root b o)
lowered_is root k tree b None f h =
    let c = collapsed_is 0 root b.above b.leaves h.lower in
    let u = collapsed b.above b.leaves in
    let t = top_is (root ∷ []) None (record { key = 0; value = c.page' } ∷ []) u.above u.leaves refl c.fits in
    record {
      fits = t.fits;
      contents = t.contents ∙ c.contents ∙ h.contents;
      fewer = λ p. let e = h.fewer p in let g = c.fewer p in let i = t.pages_are p in omega (arith, e, g, i);
      height = let e = h.height in let g = c.height in let i = t.height in omega (arith, e, g, i);
    }
lowered_is root k tree b (Some g) f h = record {
  fits = ((refl, tt, tt), (refl, refl, tt));
  contents = sym (nothing_under b.above b.leaves (by_key h.lower.has)) ∙ h.contents;
  fewer = λ p. root_counts root p tree.above tree.leaves f;
  height = omega arith;
}
  where
    by_key : HasKey g (root_rows root) → Fits None [] b.above b.leaves
    by_key (inl e) = let z = eq-eqb g 0 e in rw z at h.lower.fits
    by_key (inr none) = absurd none

pub deleted_is : (root k : ℕ) (tree : Tree) → Fits None (root_rows root) tree.above tree.leaves → IsDeleted root k tree (deleted root k tree)
deleted_is root k tree f =
    let b = shrunk k (root_rows root) tree.above tree.leaves in
    lowered_is root k tree b b.gone_key f (shrunk_is k 0 (root_rows root) tree.above tree.leaves refl (omega arith, tt, tt) f)
