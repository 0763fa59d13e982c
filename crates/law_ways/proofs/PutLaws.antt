-- A row put into a level.
use Rattle.std.proofs.Common.{◌≡◌, ℕ, zero, suc, ◌+◌, ◌<◌, ◌≤◌, true, false, List, [], ◌∷◌, ◌++◌, length, take, drop, Option, Some, None, unwrap_or, nat_lt, refl, sym, ap, ◌∙◌, subst, inl, inr, arith, append-nil, append_assoc}
use Rattle.std.specs.Prelude.{⊤}
use Rattle.std.proofs.lemmas.Bool.{cases_order, cases_Bool, lt-ltb, le-ltb, ltb-true, ltb-false}
use Rattle.std.proofs.lemmas.List.{take-append-drop}
use Rattle.spec_levels.specs.Levels.{Row, Node, rows_of, IsBelow, pages_of}
use Rattle.spec_ways.specs.Insert.{Cut, Put, cut_page, before_put, put_row, IsCut}
use Rattle.spec_ways.specs.Rows.{is_below_first, lowest_key, with_row}
use Rattle.law_ways.proofs.Bounds.{Within, next_key}
use Rattle.law_ways.proofs.Fits.{Level, Starts, StartsAt, with_up, IsUp, count, page_up}
use Rattle.law_ways.proofs.RowLaws.{below_below, with_same, with_more, from_lower, join_within, with_within, with_front, with_left, with_right}
use Rattle.law_ways.proofs.TowardLaws.{toward_here, toward_later}
use Rattle.spec_ways.specs.Ways.{key_toward}

-- the rows of a level rise as the rows that name its pages
pub level_within : {V : Type 0} (low : ℕ) (high : Option ℕ) (rows : List (Row ℕ)) (nodes : List (Node V)) → Within low high rows → Level high rows nodes → Within low high (rows_of nodes)
level_within low high [] [] w l = w
level_within low high [] (n ∷ ns) w l = absurd l
level_within low high (r ∷ rest) [] w l = absurd l
level_within {V = V} low high (r ∷ []) (n ∷ []) w l = from_lower r.key low high (n.rows ++ []) w.0 (subst (Within r.key high) (sym (append-nil n.rows)) l.1)
level_within low high (r ∷ []) (n ∷ m ∷ ns) w l = absurd l.2
level_within low high (r ∷ s ∷ rest) (n ∷ ns) w l =
    from_lower r.key low high (n.rows ++ rows_of ns) w.0
    (join_within r.key s.key high n.rows (rows_of ns) (omega (arith, w.2.0)) (λ k less. below_below k s.key high (omega (arith, less)) w.2.1) l.1
    (level_within s.key high (s ∷ rest) ns (omega arith, w.2.1, w.2.2) l.2))

pub here_below : (k : ℕ) (high : Option ℕ) (rest : List (Row ℕ)) → is_below_first k rest ≡ true → IsBelow k high → IsBelow k (next_key rest high)
here_below k high [] e below = below
here_below k high (s ∷ rest) e below = ltb-true k s.key e

pub here_within : (k low : ℕ) (high : Option ℕ) (rest : List (Row ℕ)) → is_below_first k rest ≡ true → Within low high rest → Within (suc k) high rest
here_within k low high [] e w = w
here_within k low high (s ∷ rest) e w = (ltb-true k s.key e, w.1, w.2)

pub below_within : (k : ℕ) (low : ℕ) (high : Option ℕ) (rest : List (Row ℕ)) → IsBelow k (next_key rest high) → Within low high rest → Within (suc k) high rest
below_within k low high [] e w = w
below_within k low high (s ∷ rest) e w = (e, w.1, w.2)

pub bound_of : (k low : ℕ) (high : Option ℕ) (rest : List (Row ℕ)) → IsBelow k (next_key rest high) → Within low high rest → IsBelow k high
bound_of k low high [] e w = e
bound_of k low high (s ∷ rest) e w = below_below k s.key high (omega (arith, e)) w.1

some_is : {A : Type 0} (a b : A) → Some a ≡ Some b → a ≡ b
some_is a b e = ap (λ o. unwrap_or o a) e

pub up_later : (r s : Row ℕ) (rest : List (Row ℕ)) (high : Option ℕ) (o : Option (Row ℕ)) → r.key < s.key → IsUp s.key high o → with_up o (r ∷ s ∷ rest) ≡ r ∷ with_up o (s ∷ rest)
up_later r s rest high None less separator = refl
up_later r s rest high (Some u) less separator = with_more u r (s ∷ rest) (omega (arith, less, separator.0))

pub first_later : (s : Row ℕ) (rest : List (Row ℕ)) (high : Option ℕ) (o : Option (Row ℕ)) → IsUp s.key high o → next_key (with_up o (s ∷ rest)) high ≡ Some s.key
first_later s rest high None separator = refl
first_later s rest high (Some u) separator = ap (λ l. next_key l high) (with_more u s rest separator.0)

pub up_lower : (low low' : ℕ) (high : Option ℕ) (o : Option (Row ℕ)) → low < low' → IsUp low' high o → IsUp low high o
up_lower low low' high None less separator = separator
up_lower low low' high (Some u) less separator = (omega (arith, less, separator.0), separator.1)

low_up : (low low' : ℕ) (high : Option ℕ) (o : Option (Row ℕ)) → low < low' → IsUp low' high o → (u : Row ℕ) → o ≡ Some u → low ≤ u.key
low_up low low' high None less separator u e = absurd (cc)
low_up low low' high (Some v) less separator u e = subst (λ (z : Row ℕ). low ≤ z.key) (some_is v u e) (omega (arith, less, separator.0))

-- two keys on the same side of each row
abbrev pub AreAlike : ℕ → ℕ → List (Row ℕ) → Type 0
AreAlike a b [] = ⊤
AreAlike a b (r ∷ rest) = (nat_lt a r.key ≡ nat_lt b r.key) × AreAlike a b rest

pub alike_above : (a b : ℕ) (high : Option ℕ) (rest : List (Row ℕ)) → Within (suc a) high rest → Within (suc b) high rest → AreAlike a b rest
alike_above a b high [] w v = tt
alike_above a b high (r ∷ rest) w v = (
  lt-ltb a r.key w.0 ∙ sym (lt-ltb b r.key v.0),
  alike_above a b high rest (from_lower (suc r.key) (suc a) high rest (omega (arith, w.0)) w.2) (from_lower (suc r.key) (suc b) high rest (omega (arith, v.0)) v.2),
)

pub alike_at : (a b : ℕ) (r : Row ℕ) → r.key ≤ a → r.key ≤ b → nat_lt a r.key ≡ nat_lt b r.key
alike_at a b r le le' = le-ltb a r.key le ∙ sym (le-ltb b r.key le')

module _ {V : Type 0} where
  -- rows parted in two
  record Parts (low : ℕ) (high : Option ℕ) (m : ℕ) (xs : List (Row V)) : Type 0 where
    left : Within low (Some (lowest_key (drop m xs))) (take m xs)
    right : Within (lowest_key (drop m xs)) high (drop m xs)
    least : low ≤ lowest_key (drop m xs)
    below : IsBelow (lowest_key (drop m xs)) high

  parts : (low : ℕ) (high : Option ℕ) (m : ℕ) (xs : List (Row V)) → m < length xs → Within low high xs → Parts low high m xs
  parts low high m [] less w = absurd (omega (arith, less))
  parts low high zero (x ∷ xs) less w = record { left = tt; right = (omega arith, w.1, w.2); least = w.0; below = w.1 }
  parts low high (suc m) (x ∷ xs) less w =
      let p = parts (suc x.key) high m xs (omega (arith, less)) w.2 in
      record { left = (w.0, p.least, p.left); right = p.right; least = omega (arith, w.0, p.least); below = p.below }

  above_first : (low : ℕ) (high : Option ℕ) (m : ℕ) (xs : List (Row V)) → 0 < m → m < length xs → Within low high xs → low < lowest_key (drop m xs)
  above_first low high zero xs some less w = absurd (omega (arith, some))
  above_first low high (suc m) [] some less w = absurd (omega (arith, less))
  above_first low high (suc m) (x ∷ xs) some less w =
      let p = parts (suc x.key) high m xs (omega (arith, less)) w.2 in omega (arith, w.0, p.least)

  put_here : (cut : Cut V) (right : ℕ) (x : Row V) (r : Row ℕ) (rest : List (Row ℕ)) (n : Node V) (ns : List (Node V)) → is_below_first x.key rest ≡ true
      → put_row cut right x (r ∷ rest) (n ∷ ns) ≡ cut_page (cut (with_row x n.rows)) right n (with_row x n.rows) ns
  put_here cut right x r rest n ns e = rw e refl

  pub put_later : (cut : Cut V) (right : ℕ) (x : Row V) (r : Row ℕ) (rest : List (Row ℕ)) (n : Node V) (ns : List (Node V)) → is_below_first x.key rest ≡ false
      → put_row cut right x (r ∷ rest) (n ∷ ns) ≡ before_put n (put_row cut right x rest ns)
  put_later cut right x r rest n ns e = rw e refl

  -- what putting a row into a level does
  pub record IsPut (low : ℕ) (high : Option ℕ) (right : ℕ) (x : Row V) (rows : List (Row ℕ)) (nodes : List (Node V)) (c : Put V) : Type 0 where
    pub contents : rows_of c.nodes ≡ with_row x (rows_of nodes)
    pub level : Level high (with_up c.separator rows) c.nodes
    pub separator : IsUp low high c.separator
    pub right_is : (u : Row ℕ) → c.separator ≡ Some u → u.value ≡ right
    pub alike : (u : Row ℕ) → c.separator ≡ Some u → AreAlike x.key u.key rows
    pub higher : (u : Row ℕ) → c.separator ≡ Some u → key_toward x.key rows < u.key
    pub pages_are : (p : ℕ) → count p (pages_of c.nodes) ≡ count p (pages_of nodes) + count p (page_up c.separator)
    pub starts : Starts rows nodes → Starts (with_up c.separator rows) c.nodes

  starts_with : (k : ℕ) (x : Row V) (xs : List (Row V)) → k ≤ x.key → StartsAt k xs → StartsAt k (with_row x xs)
  starts_with k x [] le s = absurd s
  starts_with k x (y ∷ ys) le s = elim (cases_order x.key y.key) [
    | inl same ↦ subst (StartsAt k) (sym (with_same x y ys same)) (same ∙ s)
    | inr (inl less) ↦ absurd (omega (arith, le, s, less))
    | inr (inr more) ↦ subst (StartsAt k) (sym (with_more x y ys more)) s
  ]

  take_starts : (k m : ℕ) (xs : List (Row V)) → 0 < m → StartsAt k xs → StartsAt k (take m xs)
  take_starts k zero xs some s = absurd (omega (arith, some))
  take_starts k (suc m) [] some s = s
  take_starts k (suc m) (x ∷ xs) some s = s

  drop_starts : (m : ℕ) (xs : List (Row V)) → m < length xs → StartsAt (lowest_key (drop m xs)) (drop m xs)
  drop_starts m [] less = absurd (omega (arith, less))
  drop_starts zero (x ∷ xs) less = refl
  drop_starts (suc m) (x ∷ xs) less = drop_starts m xs (omega (arith, less))

  module _ (cut : Cut V) (sound : IsCut cut) (right : ℕ) (x : Row V) (high : Option ℕ) (below : IsBelow x.key high) where
    contents_here : (r : Row ℕ) (rest : List (Row ℕ)) (n : Node V) (ns : List (Node V)) → Within r.key high (r ∷ rest) → Level high (r ∷ rest) (n ∷ ns)
        → is_below_first x.key rest ≡ true → with_row x n.rows ++ rows_of ns ≡ with_row x (n.rows ++ rows_of ns)
    contents_here r rest n ns w l e =
        sym (with_left (suc x.key) high x n.rows (rows_of ns) (omega arith)
        (level_within (suc x.key) high rest ns (here_within x.key (suc r.key) high rest e w.2) l.2))

    put_part : (r : Row ℕ) (rest : List (Row ℕ)) (n : Node V) (ns : List (Node V)) → Within r.key high (r ∷ rest) → Level high (r ∷ rest) (n ∷ ns)
        → r.key ≤ x.key → is_below_first x.key rest ≡ true → (o : Option ℕ) → cut (with_row x n.rows) ≡ o
        → IsPut r.key high right x (r ∷ rest) (n ∷ ns) (cut_page o right n (with_row x n.rows) ns)
    put_part r rest n ns w l le e None is = record {
      contents = contents_here r rest n ns w l e;
      level = (l.0, with_within r.key (next_key rest high) x n.rows le (here_below x.key high rest e below) l.1, l.2);
      separator = tt;
      right_is = λ u h. absurd (cc);
      alike = λ u h. absurd (cc);
      higher = λ u h. absurd (cc);
      pages_are = λ p. omega arith;
      starts = λ s. (starts_with r.key x n.rows le s.0, s.1);
    }
    put_part r rest n ns w l le e (Some m) is =
        let rs = with_row x n.rows in
        let bound = next_key rest high in
        let is_within = with_within r.key bound x n.rows le (here_below x.key high rest e below) l.1 in
        let good = sound rs m is in
        let p = parts r.key bound m rs good.1 is_within in
        let key = lowest_key (drop m rs) in
        let more : r.key < key = above_first r.key bound m rs good.0 good.1 is_within in
        let u : Row ℕ = record { key = key; value = right } in
        let names : with_row u (r ∷ rest) ≡ r ∷ u ∷ rest =
        with_more u r rest more ∙ ap (λ l. r ∷ l) (with_front (suc key) high u rest (omega arith) (below_within key (suc r.key) high rest p.below w.2)) in
        let nodes = (cut_page (Some m) right n rs ns).nodes in
        record {
          contents = sym (append_assoc (take m rs) (drop m rs) (rows_of ns)) ∙ ap (λ l. l ++ rows_of ns) (take-append-drop m rs) ∙ contents_here r rest n ns w l e;
          level = subst (λ l. Level high l nodes) (sym names) (l.0, p.left, (refl, p.right, l.2));
          separator = (more, bound_of key (suc r.key) high rest p.below w.2);
          alike = λ v h. subst (λ (z : Row ℕ). AreAlike x.key z.key (r ∷ rest)) (some_is u v h) (
            alike_at x.key key r le (omega (arith, more)),
            alike_above x.key key high rest (here_within x.key (suc r.key) high rest e w.2) (below_within key (suc r.key) high rest p.below w.2),
          );
          higher = λ v h. subst (λ (z : Row ℕ). key_toward x.key (r ∷ rest) < z.key) (some_is u v h)
              (let f = toward_here (λ z. z.key) x.key (suc r.key) high r rest e w.2 in omega (arith, f, more));
          right_is = λ v h. sym (ap (λ (z : Row ℕ). z.value) (some_is u v h));
          pages_are = λ q. omega arith;
          starts = λ s. subst (λ l. Starts l nodes) (sym names)
              (take_starts r.key m rs good.0 (starts_with r.key x n.rows le s.0), (drop_starts m rs good.1, s.1));
        }

    put_behind : (r s : Row ℕ) (rest : List (Row ℕ)) (n m : Node V) (ns : List (Node V)) (c : Put V) → Within r.key high (r ∷ s ∷ rest)
        → Level high (r ∷ s ∷ rest) (n ∷ m ∷ ns) → s.key ≤ x.key → IsPut s.key high right x (s ∷ rest) (m ∷ ns) c
        → IsPut r.key high right x (r ∷ s ∷ rest) (n ∷ m ∷ ns) (before_put n c)
    put_behind r s rest n m ns c w l le h =
        let names = up_later r s rest high c.separator w.2.0 h.separator in
        record {
          contents = ap (λ l. n.rows ++ l) h.contents ∙ sym (with_right r.key s.key x n.rows (rows_of (m ∷ ns)) le l.1);
          level = subst (λ l. Level high l (n ∷ c.nodes)) (sym names)
              (l.0, subst (λ k. Within r.key k n.rows) (sym (first_later s rest high c.separator h.separator)) l.1, h.level);
          separator = up_lower r.key s.key high c.separator w.2.0 h.separator;
          right_is = h.right_is;
          higher = λ u e. let f = toward_later (λ z. z.key) x.key r (s ∷ rest) (le-ltb x.key s.key le) in let g = h.higher u e in omega (arith, f, g);
          alike = λ u e. (alike_at x.key u.key r (omega (arith, le, w.2.0)) (low_up r.key s.key high c.separator w.2.0 h.separator u e), h.alike u e);
          pages_are = λ p. let e = h.pages_are p in omega (arith, e);
          starts = λ st. subst (λ l. Starts l (n ∷ c.nodes)) (sym names) (st.0, h.starts st.1);
        }

    pub put_is : (r : Row ℕ) (rest : List (Row ℕ)) (n : Node V) (ns : List (Node V)) → Within r.key high (r ∷ rest) → Level high (r ∷ rest) (n ∷ ns)
        → r.key ≤ x.key → IsPut r.key high right x (r ∷ rest) (n ∷ ns) (put_row cut right x (r ∷ rest) (n ∷ ns))
    put_is r [] n [] w l le = put_part r [] n [] w l le refl (cut (with_row x n.rows)) refl
    put_is r [] n (m ∷ ns) w l le = absurd l.2
    put_is r (s ∷ rest) n [] w l le = absurd l.2
    put_is r (s ∷ rest) n (m ∷ ns) w l le = elim (cases_Bool (nat_lt x.key s.key)) [
      | inl e ↦ subst (IsPut r.key high right x (r ∷ s ∷ rest) (n ∷ m ∷ ns)) (sym (put_here cut right x r (s ∷ rest) n (m ∷ ns) e))
          (put_part r (s ∷ rest) n (m ∷ ns) w l le e (cut (with_row x n.rows)) refl)
      | inr e ↦
          let more : s.key ≤ x.key = ltb-false x.key s.key e in
          subst (IsPut r.key high right x (r ∷ s ∷ rest) (n ∷ m ∷ ns)) (sym (put_later cut right x r (s ∷ rest) n (m ∷ ns) e))
          (put_behind r s rest n m ns (put_row cut right x (s ∷ rest) (m ∷ ns)) w l more
          (put_is s rest m ns (omega arith, w.2.1, w.2.2) l.2 more))
    ]
