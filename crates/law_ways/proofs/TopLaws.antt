-- The top level under other numbers, and the root above it.
use Rattle.std.proofs.Common.{◌≡◌, ℕ, suc, ◌+◌, ◌<◌, ◌≤◌, List, [], ◌∷◌, ◌++◌, map, length, drop, Option, Some, None, refl, sym, ap, ◌∙◌, subst, arith}
use Rattle.spec_levels.specs.Levels.{Row, Node, Tree, rows_of, pages_of, root_row, Payload}
use Rattle.spec_ways.specs.Insert.{linked, Cuts, Grown, first_fresh, left_over, grown, renumbered, top_renumbered, raised, root_rows, inserted, IsCut}
use Rattle.spec_ways.specs.Rows.{with_row}
use Rattle.law_ways.proofs.Bounds.{Within, next_key}
use Rattle.law_ways.proofs.Fits.{Level, Starts, Fits, with_up, count, all_pages}
use Rattle.law_ways.proofs.GrowLaws.{linked_is, linked_rows, linked_pages, linked_level, linked_starts, count_append, IsGrown, grown_is}
use Rattle.law_ways.proofs.RowLaws.{with_more}

-- these rows with other values
abbrev pub valued : List ℕ → List (Row ℕ) → List (Row ℕ)
valued [] rows = rows
valued (p ∷ ps) [] = []
valued (p ∷ ps) (r ∷ rest) = record { key = r.key; value = p } ∷ valued ps rest

abbrev pub values : List (Row ℕ) → List ℕ
values rows = map (λ r. r.value) rows

valued_first : (ps : List ℕ) (rest : List (Row ℕ)) (high : Option ℕ) → next_key rest high ≡ next_key (valued ps rest) high
valued_first [] rest high = refl
valued_first (p ∷ ps) [] high = refl
valued_first (p ∷ ps) (r ∷ rest) high = refl

module _ {V : Type 0} where
  renumbered_level : (ps : List ℕ) (high : Option ℕ) (rows : List (Row ℕ)) (nodes : List (Node V)) → Level high rows nodes → Level high (valued ps rows) (renumbered ps nodes)
  renumbered_level [] high rows nodes l = l
  renumbered_level (p ∷ ps) high [] [] l = l
  renumbered_level (p ∷ ps) high [] (n ∷ ns) l = absurd l
  renumbered_level (p ∷ ps) high (r ∷ rest) [] l = absurd l
  renumbered_level (p ∷ ps) high (r ∷ rest) (n ∷ ns) l =
      (refl, subst (λ k. Within r.key k n.rows) (valued_first ps rest high) l.1, renumbered_level ps high rest ns l.2)

  renumbered_starts : (ps : List ℕ) (rows : List (Row ℕ)) (nodes : List (Node V)) → Starts rows nodes → Starts (valued ps rows) (renumbered ps nodes)
  renumbered_starts [] rows nodes s = s
  renumbered_starts (p ∷ ps) [] nodes s = tt
  renumbered_starts (p ∷ ps) (r ∷ rest) [] s = s
  renumbered_starts (p ∷ ps) (r ∷ rest) (n ∷ ns) s = (s.0, renumbered_starts ps rest ns s.1)

  renumbered_rows : (ps : List ℕ) (nodes : List (Node V)) → rows_of (renumbered ps nodes) ≡ rows_of nodes
  renumbered_rows [] nodes = refl
  renumbered_rows (p ∷ ps) [] = refl
  renumbered_rows (p ∷ ps) (n ∷ ns) = ap (λ l. n.rows ++ l) (renumbered_rows ps ns)

  renumbered_pages : (ps : List ℕ) (nodes : List (Node V)) → length ps ≡ length nodes → pages_of (renumbered ps nodes) ≡ ps
  renumbered_pages [] [] same = refl
  renumbered_pages [] (n ∷ ns) same = absurd (omega (arith, same))
  renumbered_pages (p ∷ ps) [] same = absurd (omega (arith, same))
  renumbered_pages (p ∷ ps) (n ∷ ns) same = ap (λ l. p ∷ l) (renumbered_pages ps ns (omega (arith, same)))

  pub level_pages : (high : Option ℕ) (rows : List (Row ℕ)) (nodes : List (Node V)) → Level high rows nodes → pages_of nodes ≡ values rows
  level_pages high [] [] l = refl
  level_pages high [] (n ∷ ns) l = absurd l
  level_pages high (r ∷ rest) [] l = absurd l
  level_pages high (r ∷ rest) (n ∷ ns) l = ap (λ p. p ∷ pages_of ns) (sym l.0) ∙ ap (λ l. r.value ∷ l) (level_pages high rest ns l.2)

  level_length : (high : Option ℕ) (rows : List (Row ℕ)) (nodes : List (Node V)) → Level high rows nodes → length rows ≡ length nodes
  level_length high [] [] l = refl
  level_length high [] (n ∷ ns) l = absurd l
  level_length high (r ∷ rest) [] l = absurd l
  level_length high (r ∷ rest) (n ∷ ns) l = ap suc (level_length high rest ns l.2)

-- the top level under other numbers
pub record IsTopped (ps : List ℕ) (high : Option ℕ) (rows : List (Row ℕ)) (above : List (List (Node ℕ))) (leaves : List (Node Payload)) (t : Tree) : Type 0 where
  pub fits : Fits high (valued ps rows) t.above t.leaves
  pub contents : rows_of t.leaves ≡ rows_of leaves
  pub pages_are : (p : ℕ) → count p (all_pages t.above t.leaves) + count p (values rows) ≡ count p (all_pages above leaves) + count p ps
  pub height : length t.above ≡ length above

pub top_is : (ps : List ℕ) (high : Option ℕ) (rows : List (Row ℕ)) (above : List (List (Node ℕ))) (leaves : List (Node Payload)) → length ps ≡ length rows
    → Fits high rows above leaves → IsTopped ps high rows above leaves (top_renumbered ps above leaves)
top_is ps high rows [] leaves same fits = record {
  fits = (linked_level 0 high (valued ps rows) (renumbered ps leaves) (renumbered_level ps high rows leaves fits.0), linked_is 0 (renumbered ps leaves));
  contents = linked_rows 0 (renumbered ps leaves) ∙ renumbered_rows ps leaves;
  pages_are = λ p.
      let e = ap (count p) (linked_pages 0 (renumbered ps leaves) ∙ renumbered_pages ps leaves (same ∙ level_length high rows leaves fits.0)) in
      let f = ap (count p) (level_pages high rows leaves fits.0) in omega (arith, e, f);
  height = refl;
}
top_is ps high rows (nodes ∷ more) leaves same fits =
    let new = linked 0 (renumbered ps nodes) in
    record {
      fits = (
        linked_level 0 high (valued ps rows) (renumbered ps nodes) (renumbered_level ps high rows nodes fits.0),
        linked_starts 0 (valued ps rows) (renumbered ps nodes) (renumbered_starts ps rows nodes fits.1),
        linked_is 0 (renumbered ps nodes),
        subst (λ r. Fits high r more leaves) (sym (linked_rows 0 (renumbered ps nodes) ∙ renumbered_rows ps nodes)) fits.3,
      );
      contents = refl;
      pages_are = λ p.
          let e = ap (count p) (linked_pages 0 (renumbered ps nodes) ∙ renumbered_pages ps nodes (same ∙ level_length high rows nodes fits.0)) in
          let f = ap (count p) (level_pages high rows nodes fits.0) in
          let g = count_append p (pages_of nodes) (all_pages more leaves) in
          let h = count_append p (pages_of new) (all_pages more leaves) in omega (arith, e, f, g, h);
      height = refl;
    }

-- what putting a row into a tree does, and the new pages that are left
pub record IsInserted (root : ℕ) (fresh left : List ℕ) (o : Option (Row ℕ)) (x : Row Payload) (tree t : Tree) : Type 0 where
  pub fits : Fits None (root_rows root) t.above t.leaves
  pub contents : rows_of t.leaves ≡ with_row x (rows_of tree.leaves)
  pub kept : (p : ℕ) → count p (all_pages tree.above tree.leaves) ≤ count p (all_pages t.above t.leaves)
  pub added : (p : ℕ) → count p (all_pages t.above t.leaves) ≤ count p (all_pages tree.above tree.leaves) + count p fresh
  pub exact : (p : ℕ) → count p (all_pages t.above t.leaves) + count p left ≡ count p (all_pages tree.above tree.leaves) + count p fresh
  pub height : length t.above ≤ suc (length tree.above)
  pub low : o ≡ None → length t.above ≡ length tree.above

first_counts : (p : ℕ) (fresh : List ℕ) → 0 < length fresh → count p (first_fresh fresh ∷ []) ≤ count p fresh
first_counts p [] some = absurd (omega (arith, some))
first_counts p (f ∷ fresh) some = omega arith

first_exact : (p : ℕ) (fresh : List ℕ) → 0 < length fresh → count p (first_fresh fresh ∷ []) + count p (drop 1 fresh) ≡ count p fresh
first_exact p [] some = absurd (omega (arith, some))
first_exact p (f ∷ fresh) some = omega arith

raised_is : (root : ℕ) (fresh : List ℕ) (x : Row Payload) (tree : Tree) (b : Grown) (o : Option (Row ℕ)) → suc (length tree.above) < length fresh
    → IsGrown 0 None (root_rows root) tree.above tree.leaves fresh x b o → IsInserted root fresh (left_over o b.fresh) o x tree (raised root b o)
raised_is root fresh x tree b None many h = record {
  fits = h.fits;
  contents = h.contents;
  kept = λ p. let e = h.pages_are p in let f = h.less p in omega (arith, e, f);
  added = λ p. let e = h.pages_are p in omega (arith, e);
  exact = h.pages_are;
  height = let e = h.height in omega (arith, e);
  low = λ e. h.height;
}
raised_is root fresh x tree b (Some u) many h =
    let right = first_fresh b.fresh in
    let some : 0 < length b.fresh = omega (arith, many, h.enough) in
    let names : with_up (Some u) (root_rows root) ≡ root_row root ∷ u ∷ [] = with_more u (root_row root) [] h.separator.0 in
    let fits = subst (λ r. Fits None r b.above b.leaves) names h.fits in
    let t = top_is (u.value ∷ right ∷ []) None (root_row root ∷ u ∷ []) b.above b.leaves refl fits in
    record {
      fits = ((refl, (omega arith, tt, (h.separator.0, tt, tt)), tt), (refl, tt), (refl, refl, tt), t.fits);
      contents = t.contents ∙ h.contents;
      kept = λ p. let e = h.pages_are p in let f = h.less p in let g = t.pages_are p in omega (arith, e, f, g);
      added = λ p. let e = h.pages_are p in let f = h.less p in let g = t.pages_are p in let i = first_counts p b.fresh some in omega (arith, e, f, g, i);
      exact = λ p. let e = h.pages_are p in let g = t.pages_are p in let i = first_exact p b.fresh some in omega (arith, e, g, i);
      height = let e = h.height in let g = t.height in omega (arith, e, g);
      low = λ e. absurd (cc);
    }

pub inserted_is : (cuts : Cuts) → IsCut cuts.leaf → IsCut cuts.index → (fresh : List ℕ) (root : ℕ) (x : Row Payload) (tree : Tree) → suc (length tree.above) < length fresh
    → Fits None (root_rows root) tree.above tree.leaves → let b = grown cuts fresh x (root_rows root) tree.above tree.leaves in IsInserted root fresh (left_over b.separator b.fresh) b.separator x tree (inserted cuts fresh root x tree)
inserted_is cuts leaf index fresh root x tree many fits =
    let b = grown cuts fresh x (root_rows root) tree.above tree.leaves in
    raised_is root fresh x tree b b.separator many
    (grown_is cuts leaf index x 0 None tt (omega arith) fresh (root_rows root) tree.above tree.leaves refl (omega arith, tt, tt) fits (omega (arith, many)))
