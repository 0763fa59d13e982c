-- A row put into a leaf, and what goes up from there.
use Rattle.std.proofs.Common.{◌≡◌, ℕ, suc, ◌+◌, ◌<◌, ◌≤◌, List, [], ◌∷◌, ◌++◌, length, Option, Some, None, nat_lt, refl, sym, ap, ◌∙◌, subst, arith, Bool, false}
use Rattle.std.specs.Prelude.{if◌then◌else◌}
use Rattle.spec_levels.specs.Levels.{Row, Node, rows_of, first_page, IsLinked, IsBelow, pages_of, Payload}
use Rattle.spec_ways.specs.Insert.{linked, Cut, Cuts, put_row, Grown, first_fresh, left_over, with_separator, grown, IsCut}
use Rattle.spec_ways.specs.Rows.{with_row}
use Rattle.law_ways.proofs.Bounds.{Within}
use Rattle.law_ways.proofs.Fits.{Level, Starts, StartsAt, Fits, with_up, IsUp, count, page_up, all_pages}
use Rattle.law_ways.proofs.PutLaws.{level_within, IsPut, put_is, AreAlike}
use Rattle.spec_ways.specs.Ways.{are_above, row_toward, key_toward}

module _ {V : Type 0} where
  pub linked_first : (b : ℕ) (nodes : List (Node V)) → first_page (linked b nodes) ≡ first_page nodes
  linked_first b [] = refl
  linked_first b (n ∷ ns) = refl

  pub linked_is : (b : ℕ) (nodes : List (Node V)) → IsLinked b (linked b nodes)
  linked_is b [] = tt
  linked_is b (n ∷ ns) = (refl, sym (linked_first n.page ns), linked_is n.page ns)

  pub linked_rows : (b : ℕ) (nodes : List (Node V)) → rows_of (linked b nodes) ≡ rows_of nodes
  linked_rows b [] = refl
  linked_rows b (n ∷ ns) = ap (λ l. n.rows ++ l) (linked_rows n.page ns)

  pub linked_pages : (b : ℕ) (nodes : List (Node V)) → pages_of (linked b nodes) ≡ pages_of nodes
  linked_pages b [] = refl
  linked_pages b (n ∷ ns) = ap (λ l. n.page ∷ l) (linked_pages n.page ns)

  pub linked_level : (b : ℕ) (high : Option ℕ) (rows : List (Row ℕ)) (nodes : List (Node V)) → Level high rows nodes → Level high rows (linked b nodes)
  linked_level b high [] [] l = l
  linked_level b high [] (n ∷ ns) l = l
  linked_level b high (r ∷ rest) [] l = l
  linked_level b high (r ∷ rest) (n ∷ ns) l = (l.0, l.1, linked_level n.page high rest ns l.2)

  pub linked_starts : (b : ℕ) (rows : List (Row ℕ)) (nodes : List (Node V)) → Starts rows nodes → Starts rows (linked b nodes)
  linked_starts b [] nodes s = tt
  linked_starts b (r ∷ rest) [] s = s
  linked_starts b (r ∷ rest) (n ∷ ns) s = (s.0, linked_starts n.page rest ns s.1)

  pub starts_append : (k : ℕ) (xs ys : List (Row V)) → StartsAt k xs → StartsAt k (xs ++ ys)
  starts_append k [] ys s = absurd s
  starts_append k (x ∷ xs) ys s = s

  pub rows_start : (low : ℕ) (high : Option ℕ) (rows : List (Row ℕ)) (nodes : List (Node V)) → StartsAt low rows → Level high rows nodes → Starts rows nodes → StartsAt low (rows_of nodes)
  rows_start low high [] nodes at l s = absurd at
  rows_start low high (r ∷ rest) [] at l s = absurd l
  rows_start low high (r ∷ rest) (n ∷ ns) at l s = starts_append low n.rows (rows_of ns) (subst (λ k. StartsAt k n.rows) at s.0)

  pub put_at : (cut : Cut V) → IsCut cut → (right : ℕ) (x : Row V) (low : ℕ) (high : Option ℕ) (rows : List (Row ℕ)) (nodes : List (Node V)) → IsBelow x.key high
      → StartsAt low rows → Within low high rows → Level high rows nodes → low ≤ x.key → IsPut low high right x rows nodes (put_row cut right x rows nodes)
  put_at cut sound right x low high [] nodes below at w l le = absurd at
  put_at cut sound right x low high (r ∷ rest) [] below at w l le = absurd l
  put_at cut sound right x low high (r ∷ rest) (n ∷ ns) below at w l le =
      subst (λ k. IsPut k high right x (r ∷ rest) (n ∷ ns) (put_row cut right x (r ∷ rest) (n ∷ ns))) at
      (put_is cut sound right x high below r rest n ns (omega arith, w.1, w.2) l (omega (arith, le, at)))

-- the new page that a split takes
taken : (o : Option (Row ℕ)) (fresh : List ℕ) → ((u : Row ℕ) → o ≡ Some u → u.value ≡ first_fresh fresh) → 0 < length fresh → (p : ℕ)
    → count p (page_up o) + count p (left_over o fresh) ≡ count p fresh
taken None fresh is some p = omega arith
taken (Some u) [] is some p = absurd (omega (arith, some))
taken (Some u) (f ∷ fresh) is some p = let e = is u refl in rw e (omega arith)

pub fewer : (o : Option (Row ℕ)) (fresh : List ℕ) → length fresh ≤ length (left_over o fresh) + 1
fewer None fresh = omega arith
fewer (Some u) [] = omega arith
fewer (Some u) (f ∷ fresh) = omega arith

pub count_append : (p : ℕ) (xs ys : List ℕ) → count p (xs ++ ys) ≡ count p xs + count p ys
count_append p [] ys = omega arith
count_append p (x ∷ xs) ys = let e = count_append p xs ys in omega (arith, e)

pub alike_trans : (a b c : ℕ) (rows : List (Row ℕ)) → AreAlike a b rows → AreAlike b c rows → AreAlike a c rows
alike_trans a b c [] h i = tt
alike_trans a b c (r ∷ rest) h i = (h.0 ∙ i.0, alike_trans a b c rest h.1 i.1)

above_alike : (k g : ℕ) (rows : List (Row ℕ)) → AreAlike k g rows → are_above g rows ≡ are_above k rows
above_alike k g [] h = refl
above_alike k g (q ∷ rest) h =
    ap (λ (b : Bool). if b then are_above g rest else false) (sym h.0) ∙ ap (λ (b : Bool). if nat_lt k q.key then b else false) (above_alike k g rest h.1)

row_same : (k g : ℕ) (rows : List (Row ℕ)) → AreAlike k g rows → row_toward g rows ≡ row_toward k rows
row_same k g [] h = refl
row_same k g (r ∷ rest) h =
    ap (λ (b : Bool). if b then r else row_toward g rest) (above_alike k g rest h.1) ∙ ap (λ (x : Row ℕ). if are_above k rest then r else x) (row_same k g rest h.1)

pub key_same : (k g : ℕ) (rows : List (Row ℕ)) → AreAlike k g rows → key_toward g rows ≡ key_toward k rows
key_same k g rows h = ap (λ (x : Row ℕ). x.key) (row_same k g rows h)

pub alike_front : (a b : ℕ) (xs ys : List (Row ℕ)) → AreAlike a b (xs ++ ys) → AreAlike a b xs
alike_front a b [] ys h = tt
alike_front a b (x ∷ xs) ys h = (h.0, alike_front a b xs ys h.1)

pub alike_behind : (a b : ℕ) (xs ys : List (Row ℕ)) → AreAlike a b (xs ++ ys) → AreAlike a b ys
alike_behind a b [] ys h = h
alike_behind a b (x ∷ xs) ys h = alike_behind a b xs ys h.1

alike_first : (a b key : ℕ) (xs ys : List (Row ℕ)) → StartsAt key xs → AreAlike a b (xs ++ ys) → nat_lt a key ≡ nat_lt b key
alike_first a b key [] ys s h = absurd s
alike_first a b key (x ∷ xs) ys s h = subst (λ j. nat_lt a j ≡ nat_lt b j) s h.0

-- keys on the same side of each row of a level are on the same side of each row above
pub alike_up : (a b : ℕ) (high : Option ℕ) (rows : List (Row ℕ)) (nodes : List (Node ℕ)) → Level high rows nodes → Starts rows nodes → AreAlike a b (rows_of nodes) → AreAlike a b rows
alike_up a b high [] nodes l s h = tt
alike_up a b high (r ∷ rest) [] l s h = absurd l
alike_up a b high (r ∷ rest) (n ∷ ns) l s h =
    (alike_first a b r.key n.rows (rows_of ns) s.0 h, alike_up a b high rest ns l.2 s.1 (alike_behind a b n.rows (rows_of ns) h))

pub record IsGrown (low : ℕ) (high : Option ℕ) (rows : List (Row ℕ)) (above : List (List (Node ℕ))) (leaves : List (Node Payload))
    (fresh : List ℕ) (x : Row Payload) (b : Grown) (o : Option (Row ℕ)) : Type 0 where
  pub fits : Fits high (with_up o rows) b.above b.leaves
  pub separator : IsUp low high o
  pub contents : rows_of b.leaves ≡ with_row x (rows_of leaves)
  pub alike : (u : Row ℕ) → o ≡ Some u → AreAlike x.key u.key rows
  pub higher : (u : Row ℕ) → o ≡ Some u → key_toward x.key rows < u.key
  pub pages_are : (p : ℕ) → count p (all_pages b.above b.leaves) + count p b.fresh ≡ count p (all_pages above leaves) + count p fresh
  pub less : (p : ℕ) → count p b.fresh ≤ count p fresh
  pub enough : length fresh ≤ length b.fresh + suc (length above)
  pub height : length b.above ≡ length above

module _ (cuts : Cuts) (sound_leaf : IsCut cuts.leaf) (sound_index : IsCut cuts.index) (x : Row Payload) (low : ℕ) (high : Option ℕ) (below : IsBelow x.key high) (le : low ≤ x.key) where
  grown_leaves : (fresh : List ℕ) (rows : List (Row ℕ)) (leaves : List (Node Payload)) → StartsAt low rows → Within low high rows → Level high rows leaves → 0 < length fresh
      → let b = grown cuts fresh x rows [] leaves in IsGrown low high rows [] leaves fresh x b b.separator
  grown_leaves fresh rows leaves at w l some =
      let c = put_row cuts.leaf (first_fresh fresh) x rows leaves in
      let is = put_at cuts.leaf sound_leaf (first_fresh fresh) x low high rows leaves below at w l le in
      record {
        fits = (linked_level 0 high (with_up c.separator rows) c.nodes is.level, linked_is 0 c.nodes);
        separator = is.separator;
        contents = linked_rows 0 c.nodes ∙ is.contents;
        alike = is.alike;
        higher = is.higher;
        pages_are = λ p.
            let e = is.pages_are p in
            let f = taken c.separator fresh is.right_is some p in
            let g = ap (count p) (linked_pages 0 c.nodes) in omega (arith, e, f, g);
        less = λ p. let f = taken c.separator fresh is.right_is some p in omega (arith, f);
        enough = fewer c.separator fresh;
        height = refl;
      }

  separator_is : (fresh : List ℕ) (rows : List (Row ℕ)) (nodes : List (Node ℕ)) (more : List (List (Node ℕ))) (leaves : List (Node Payload)) → StartsAt low rows → Within low high rows
      → Level high rows nodes → Starts rows nodes → IsLinked 0 nodes → suc (length more) < length fresh → (b : Grown) (o : Option (Row ℕ)) → IsGrown low high (rows_of nodes) more leaves fresh x b o
      → let t = with_separator cuts.index rows nodes b o in IsGrown low high rows (nodes ∷ more) leaves fresh x t t.separator
  separator_is fresh rows nodes more leaves at w l s linked many b None h = record {
    fits = (l, s, linked, h.fits);
    separator = tt;
    contents = h.contents;
    alike = λ u e. absurd (cc);
    higher = λ u e. absurd (cc);
    pages_are = λ p.
        let e = h.pages_are p in
        let f = count_append p (pages_of nodes) (all_pages more leaves) in
        let g = count_append p (pages_of nodes) (all_pages b.above b.leaves) in omega (arith, e, f, g);
    less = h.less;
    enough = let e = h.enough in omega (arith, e);
    height = ap suc h.height;
  }
  separator_is fresh rows nodes more leaves at w l s are_linked many b (Some y) h =
      let c = put_row cuts.index (first_fresh b.fresh) y rows nodes in
      let some : 0 < length b.fresh = omega (arith, many, h.enough) in
      let is = put_at cuts.index sound_index (first_fresh b.fresh) y low high rows nodes h.separator.1 at w l (omega (arith, h.separator.0)) in
      record {
        fits = (
          linked_level 0 high (with_up c.separator rows) c.nodes is.level,
          linked_starts 0 (with_up c.separator rows) c.nodes (is.starts s),
          linked_is 0 c.nodes,
          subst (λ r. Fits high r b.above b.leaves) (sym (linked_rows 0 c.nodes ∙ is.contents)) h.fits,
        );
        separator = is.separator;
        contents = h.contents;
        alike = λ u e. alike_trans x.key y.key u.key rows (alike_up x.key y.key high rows nodes l s (h.alike y refl)) (is.alike u e);
        higher = λ u e. let f = key_same x.key y.key rows (alike_up x.key y.key high rows nodes l s (h.alike y refl)) in let g = is.higher u e in omega (arith, f, g);
        pages_are = λ p.
            let e = h.pages_are p in
            let f = count_append p (pages_of nodes) (all_pages more leaves) in
            let g = count_append p (pages_of (linked 0 c.nodes)) (all_pages b.above b.leaves) in
            let i = ap (count p) (linked_pages 0 c.nodes) in
            let j = is.pages_are p in
            let k = taken c.separator b.fresh is.right_is some p in omega (arith, e, f, g, i, j, k);
        less = λ p. let e = h.less p in let f = taken c.separator b.fresh is.right_is some p in omega (arith, e, f);
        enough = let e = h.enough in let f = fewer c.separator b.fresh in omega (arith, e, f);
        height = ap suc h.height;
      }

  pub grown_is : (fresh : List ℕ) (rows : List (Row ℕ)) (above : List (List (Node ℕ))) (leaves : List (Node Payload)) → StartsAt low rows → Within low high rows
      → Fits high rows above leaves → length above < length fresh → let b = grown cuts fresh x rows above leaves in IsGrown low high rows above leaves fresh x b b.separator
  grown_is fresh rows [] leaves at w fits many = grown_leaves fresh rows leaves at w fits.0 many
  grown_is fresh rows (nodes ∷ more) leaves at w fits many =
      let b = grown cuts fresh x (rows_of nodes) more leaves in
      separator_is fresh rows nodes more leaves at w fits.0 fits.1 fits.2 many b b.separator
      (grown_is fresh (rows_of nodes) more leaves (rows_start low high rows nodes at fits.0 fits.1) (level_within low high rows nodes w fits.0) fits.3 (omega (arith, many)))
