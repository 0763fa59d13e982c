-- A row taken from a level.
use Rattle.std.proofs.Common.{◌≡◌, ◌⊎◌, ℕ, suc, ◌<◌, ◌≤◌, true, false, List, [], ◌∷◌, ◌++◌, Option, Some, None, nat_lt, refl, sym, ap, ◌∙◌, subst, inl, inr, arith}
use Rattle.std.proofs.lemmas.Bool.{cases_eq, cases_Bool, le-ltb, ltb-false, eq-eqb, ne_eqb}
use Rattle.spec_levels.specs.Levels.{Row, Node, rows_of, first_page, IsBelow, pages_of, Payload}
use Rattle.spec_ways.specs.Delete.{Taken, kept_page, before_taken, take_row, leaf_without, index_without, with_first_keys}
use Rattle.spec_ways.specs.Insert.{linked}
use Rattle.spec_ways.specs.Rows.{with_first_key, is_below_first, without}
use Rattle.spec_ways.specs.Ways.{key_toward}
use Rattle.law_ways.proofs.Bounds.{Within, next_key, shifted, HasKey}
use Rattle.law_ways.proofs.Fits.{Level, Starts, StartsAt, count}
use Rattle.law_ways.proofs.PutLaws.{level_within, here_within}
use Rattle.law_ways.proofs.TowardLaws.{toward_here, toward_later}
use Rattle.law_ways.proofs.RowLaws.{below_below, from_lower, to_higher, without_same, without_other, without_within, without_left, without_right}

pub shifted_same : (k : ℕ) (r : Row ℕ) (rest : List (Row ℕ)) → k ≡ r.key → shifted k (r ∷ rest) ≡ with_first_key k rest
shifted_same k r rest same = let e = eq-eqb k r.key same in rw e refl

pub shifted_other : (k : ℕ) (r : Row ℕ) (rest : List (Row ℕ)) → (k ≡ r.key → ⊥) → shifted k (r ∷ rest) ≡ r ∷ shifted k rest
shifted_other k r rest other = let e = ne_eqb k r.key other in rw e refl

shifted_right : (low mid k : ℕ) (xs ys : List (Row ℕ)) → mid ≤ k → Within low (Some mid) xs → shifted k (xs ++ ys) ≡ xs ++ shifted k ys
shifted_right low mid k [] ys le w = refl
shifted_right low mid k (z ∷ zs) ys le w =
    shifted_other k z (zs ++ ys) (λ same. omega (arith, same, le, w.1)) ∙ ap (λ l. z ∷ l) (shifted_right (suc z.key) mid k zs ys le w.2)

module _ {V : Type 0} where
  first_key_within : (low k : ℕ) (high : Option ℕ) (xs : List (Row V)) → k ≤ low → Within low high xs → Within k high (with_first_key k xs)
  first_key_within low k high [] le w = w
  first_key_within low k high (x ∷ xs) le w =
      (omega arith, below_below k x.key high (omega (arith, le, w.0)) w.1, from_lower (suc x.key) (suc k) high xs (omega (arith, le, w.0)) w.2)

  pub first_key_same : (k : ℕ) (xs : List (Row V)) → StartsAt k xs → with_first_key k xs ≡ xs
  first_key_same k [] s = refl
  first_key_same k (x ∷ xs) s = ap (λ (j : ℕ). record { key = j; value = x.value } ∷ xs) (sym s)

  first_key_append : (k low : ℕ) (xs ys : List (Row V)) → StartsAt low xs → with_first_key k (xs ++ ys) ≡ with_first_key k xs ++ ys
  first_key_append k low [] ys s = absurd s
  first_key_append k low (x ∷ xs) ys s = refl

  first_key_starts : (k low : ℕ) (xs : List (Row V)) → StartsAt low xs → StartsAt k (with_first_key k xs)
  first_key_starts k low [] s = absurd s
  first_key_starts k low (x ∷ xs) s = refl

  -- pages that begin with the keys of their rows
  pub first_keys_same : (rows : List (Row ℕ)) (nodes : List (Node V)) → Starts rows nodes → with_first_keys rows nodes ≡ nodes
  first_keys_same [] nodes s = refl
  first_keys_same (r ∷ rest) [] s = refl
  first_keys_same (r ∷ rest) (n ∷ ns) s =
      ap (λ (rs : List (Row V)). record { page = n.page; prev = n.prev; next = n.next; rows = rs } ∷ with_first_keys rest ns) (first_key_same r.key n.rows s.0)
      ∙ ap (λ l. n ∷ l) (first_keys_same rest ns s.1)

  pub first_keys_first : (rows : List (Row ℕ)) (nodes : List (Node V)) → first_page (with_first_keys rows nodes) ≡ first_page nodes
  first_keys_first [] nodes = refl
  first_keys_first (r ∷ rest) [] = refl
  first_keys_first (r ∷ rest) (n ∷ ns) = refl

  pub first_keys_linked : (b : ℕ) (rows : List (Row ℕ)) (nodes : List (Node V)) → with_first_keys rows (linked b nodes) ≡ linked b (with_first_keys rows nodes)
  first_keys_linked b [] nodes = refl
  first_keys_linked b (r ∷ rest) [] = refl
  first_keys_linked b (r ∷ rest) (n ∷ ns) =
      ap (λ (q : ℕ). record { page = n.page; prev = b; next = q; rows = with_first_key r.key n.rows } ∷ with_first_keys rest (linked n.page ns)) (sym (first_keys_first rest ns))
      ∙ ap (λ l. record { page = n.page; prev = b; next = first_page (with_first_keys rest ns); rows = with_first_key r.key n.rows } ∷ l) (first_keys_linked n.page rest ns)

  pub first_keys_pages : (rows : List (Row ℕ)) (nodes : List (Node V)) → pages_of (with_first_keys rows nodes) ≡ pages_of nodes
  first_keys_pages [] nodes = refl
  first_keys_pages (r ∷ rest) [] = refl
  first_keys_pages (r ∷ rest) (n ∷ ns) = ap (λ l. n.page ∷ l) (first_keys_pages rest ns)

  take_here : (change : ℕ → List (Row V) → List (Row V)) (k : ℕ) (r : Row ℕ) (rest : List (Row ℕ)) (n : Node V) (ns : List (Node V)) → is_below_first k rest ≡ true
      → take_row change k (r ∷ rest) (n ∷ ns) ≡ kept_page r.key n (change r.key n.rows) ns
  take_here change k r rest n ns e = rw e refl

  pub take_later : (change : ℕ → List (Row V) → List (Row V)) (k : ℕ) (r : Row ℕ) (rest : List (Row ℕ)) (n : Node V) (ns : List (Node V)) → is_below_first k rest ≡ false
      → take_row change k (r ∷ rest) (n ∷ ns) ≡ before_taken n (take_row change k rest ns)
  take_later change k r rest n ns e = rw e refl

-- the bound behind a page, where a row goes or is passed on, is no lower
wider_without : (k : ℕ) (s : Row ℕ) (rest : List (Row ℕ)) (low : ℕ) → Within low None (s ∷ rest) → (j : ℕ) → j < s.key → IsBelow j (next_key (without k (s ∷ rest)) None)
wider_without k s rest low w j less = elim (cases_eq k s.key) [
  | inl same ↦ subst (λ l. IsBelow j (next_key l None)) (sym (without_same k s rest same)) (by_rest rest w.2)
  | inr other ↦ subst (λ l. IsBelow j (next_key l None)) (sym (without_other k s rest other)) less
]
  where
    by_rest : (rest : List (Row ℕ)) → Within (suc s.key) None rest → IsBelow j (next_key rest None)
    by_rest [] v = tt
    by_rest (t ∷ rest) v = omega (arith, less, v.0)

wider_shifted : (k : ℕ) (s : Row ℕ) (rest : List (Row ℕ)) (j : ℕ) → j < s.key → IsBelow j (next_key (shifted k (s ∷ rest)) None)
wider_shifted k s rest j less = elim (cases_eq k s.key) [
  | inl same ↦ subst (λ l. IsBelow j (next_key l None)) (sym (shifted_same k s rest same)) (by_rest rest (omega (arith, less, same)))
  | inr other ↦ subst (λ l. IsBelow j (next_key l None)) (sym (shifted_other k s rest other)) less
]
  where
    by_rest : (rest : List (Row ℕ)) → j < k → IsBelow j (next_key (with_first_key k rest) None)
    by_rest [] v = tt
    by_rest (t ∷ rest) v = v

-- a row that leaves is one of the rows
has_above : (low : ℕ) (high : Option ℕ) (g : ℕ) (rows : List (Row ℕ)) → Within low high rows → HasKey g rows → low ≤ g
has_above low high g [] w h = absurd h
has_above low high g (r ∷ rest) w (inl e) = omega (arith, e, w.0)
has_above low high g (r ∷ rest) w (inr h) = let le = has_above (suc r.key) high g rest w.2 h in omega (arith, le, w.0)

module _ {V : Type 0} where
  level_past : (g : ℕ) (r s : Row ℕ) (rest : List (Row ℕ)) (n : Node V) (nodes : List (Node V)) → Within r.key None (r ∷ s ∷ rest) → HasKey g (s ∷ rest) → r.value ≡ n.page
      → Within r.key (Some s.key) n.rows → Level None (without g (s ∷ rest)) nodes → Level None (without g (r ∷ s ∷ rest)) (n ∷ nodes)
  level_past g r s rest n nodes w has page within l =
      let le = has_above (suc r.key) None g (s ∷ rest) w.2 has in
      subst (λ l. Level None l (n ∷ nodes)) (sym (without_other g r (s ∷ rest) (λ same. omega (arith, same, le))))
      (page, to_higher r.key (Some s.key) (next_key (without g (s ∷ rest)) None) n.rows (wider_without g s rest (suc r.key) w.2) within, l)

  shifted_past : (g : ℕ) (r s : Row ℕ) (rest : List (Row ℕ)) (n : Node V) (nodes : List (Node V)) → Within r.key None (r ∷ s ∷ rest) → HasKey g (s ∷ rest) → r.value ≡ n.page
      → Within r.key (Some s.key) n.rows → Level None (shifted g (s ∷ rest)) nodes → Level None (shifted g (r ∷ s ∷ rest)) (n ∷ nodes)
  shifted_past g r s rest n nodes w has page within l =
      let le = has_above (suc r.key) None g (s ∷ rest) w.2 has in
      subst (λ l. Level None l (n ∷ nodes)) (sym (shifted_other g r (s ∷ rest) (λ same. omega (arith, same, le))))
      (page, to_higher r.key (Some s.key) (next_key (shifted g (s ∷ rest)) None) n.rows (wider_shifted g s rest) within, l)

  -- the page behind one that goes takes the keys from its first on
  next_level : (k : ℕ) (rest : List (Row ℕ)) (ns : List (Node V)) → Within (suc k) None rest → Level None rest ns → Level None (with_first_key k rest) ns
  next_level k [] [] w l = l
  next_level k [] (m ∷ ns) w l = l
  next_level k (s ∷ rest) [] w l = l
  next_level k (s ∷ rest) (m ∷ ns) w l = (l.0, from_lower s.key k (next_key rest None) m.rows (omega (arith, w.0)) l.1, l.2)

  -- what taking a row from a level does to the pages under the rows
  pub record IsGone (rows : List (Row ℕ)) (g : ℕ) (nodes : List (Node V)) : Type 0 where
    pub has : HasKey g rows
    pub level : Level None (without g rows) nodes
    pub next : Level None (shifted g rows) nodes

  abbrev pub IsLeft : List (Row ℕ) → List (Node V) → Option ℕ → Type 0
  IsLeft rows nodes None = Level None rows nodes
  IsLeft rows nodes (Some g) = IsGone rows g nodes

  left_past : (r s : Row ℕ) (rest : List (Row ℕ)) (n : Node V) (nodes : List (Node V)) (o : Option ℕ) → Within r.key None (r ∷ s ∷ rest) → r.value ≡ n.page
      → Within r.key (Some s.key) n.rows → IsLeft (s ∷ rest) nodes o → IsLeft (r ∷ s ∷ rest) (n ∷ nodes) o
  left_past r s rest n nodes None w page within h = (page, within, h)
  left_past r s rest n nodes (Some g) w page within h = record {
    has = inr h.has;
    level = level_past g r s rest n nodes w h.has page within h.level;
    next = shifted_past g r s rest n nodes w h.has page within h.next;
  }

-- a row taken from the leaves
pub record IsTaken (k : ℕ) (rows : List (Row ℕ)) (nodes : List (Node Payload)) (c : Taken Payload) : Type 0 where
  pub contents : rows_of c.nodes ≡ without k (rows_of nodes)
  pub fewer : (p : ℕ) → count p (pages_of c.nodes) ≤ count p (pages_of nodes)
  pub left : IsLeft rows c.nodes c.gone_key

gone_here : {V : Type 0} (r : Row ℕ) (rest : List (Row ℕ)) (ns : List (Node V)) → Within r.key None (r ∷ rest) → Level None rest ns → IsGone (r ∷ rest) r.key ns
gone_here r rest ns w l = record {
  has = inl refl;
  level = subst (λ l. Level None l ns) (sym (without_same r.key r rest refl)) l;
  next = subst (λ l. Level None l ns) (sym (shifted_same r.key r rest refl)) (next_level r.key rest ns w.2 l);
}

leaf_here : (k : ℕ) (r : Row ℕ) (rest : List (Row ℕ)) (n : Node Payload) (ns : List (Node Payload)) → Within r.key None (r ∷ rest) → Level None (r ∷ rest) (n ∷ ns)
    → is_below_first k rest ≡ true → (rs : List (Row Payload)) → without k n.rows ≡ rs → IsTaken k (r ∷ rest) (n ∷ ns) (kept_page r.key n rs ns)
leaf_here k r rest n ns w l e [] is = record {
  contents = ap (λ l. l ++ rows_of ns) (sym is) ∙ sym (without_left (suc k) None k n.rows (rows_of ns) (omega arith)
      (level_within (suc k) None rest ns (here_within k (suc r.key) None rest e w.2) l.2));
  fewer = λ p. omega arith;
  left = gone_here r rest ns w l.2;
}
leaf_here k r rest n ns w l e (y ∷ ys) is = record {
  contents = ap (λ l. l ++ rows_of ns) (sym is) ∙ sym (without_left (suc k) None k n.rows (rows_of ns) (omega arith)
      (level_within (suc k) None rest ns (here_within k (suc r.key) None rest e w.2) l.2));
  fewer = λ p. omega arith;
  left = (l.0, subst (Within r.key (next_key rest None)) is (without_within r.key (next_key rest None) k n.rows l.1), l.2);
}

leaf_past : (k : ℕ) (r s : Row ℕ) (rest : List (Row ℕ)) (n m : Node Payload) (ns : List (Node Payload)) (c : Taken Payload) → Within r.key None (r ∷ s ∷ rest)
    → Level None (r ∷ s ∷ rest) (n ∷ m ∷ ns) → s.key ≤ k → IsTaken k (s ∷ rest) (m ∷ ns) c → IsTaken k (r ∷ s ∷ rest) (n ∷ m ∷ ns) (before_taken n c)
leaf_past k r s rest n m ns c w l le h = record {
  contents = ap (λ l. n.rows ++ l) h.contents ∙ sym (without_right r.key s.key k n.rows (rows_of (m ∷ ns)) le l.1);
  fewer = λ p. let e = h.fewer p in omega (arith, e);
  left = left_past r s rest n c.nodes c.gone_key w l.0 l.1 h.left;
}

leaf_taken : (k : ℕ) (r : Row ℕ) (rest : List (Row ℕ)) (n : Node Payload) (ns : List (Node Payload)) → Within r.key None (r ∷ rest) → Level None (r ∷ rest) (n ∷ ns)
    → IsTaken k (r ∷ rest) (n ∷ ns) (take_row (leaf_without k) k (r ∷ rest) (n ∷ ns))
leaf_taken k r [] n [] w l = leaf_here k r [] n [] w l refl (without k n.rows) refl
leaf_taken k r [] n (m ∷ ns) w l = absurd l.2
leaf_taken k r (s ∷ rest) n [] w l = absurd l.2
leaf_taken k r (s ∷ rest) n (m ∷ ns) w l = elim (cases_Bool (nat_lt k s.key)) [
  | inl e ↦ subst (IsTaken k (r ∷ s ∷ rest) (n ∷ m ∷ ns)) (sym (take_here (leaf_without k) k r (s ∷ rest) n (m ∷ ns) e)) (leaf_here k r (s ∷ rest) n (m ∷ ns) w l e (without k n.rows) refl)
  | inr e ↦ subst (IsTaken k (r ∷ s ∷ rest) (n ∷ m ∷ ns)) (sym (take_later (leaf_without k) k r (s ∷ rest) n (m ∷ ns) e))
      (leaf_past k r s rest n m ns (take_row (leaf_without k) k (s ∷ rest) (m ∷ ns)) w l (ltb-false k s.key e) (leaf_taken k s rest m ns (omega arith, w.2.1, w.2.2) l.2))
]

pub leaf_taken_at : (k low : ℕ) (rows : List (Row ℕ)) (nodes : List (Node Payload)) → StartsAt low rows → Within low None rows → Level None rows nodes
    → IsTaken k rows nodes (take_row (leaf_without k) k rows nodes)
leaf_taken_at k low [] nodes at w l = absurd at
leaf_taken_at k low (r ∷ rest) [] at w l = absurd l
leaf_taken_at k low (r ∷ rest) (n ∷ ns) at w l = leaf_taken k r rest n ns (omega arith, w.1, w.2) l

-- a page of the level keeps rows: the rows of the level are without the key, or the next row took it
pub record IsKept (k : ℕ) (rows : List (Row ℕ)) (nodes nodes' : List (Node ℕ)) : Type 0 where
  pub key : ℕ
  pub level : Level None rows nodes'
  pub starts : Starts rows nodes'
  pub key_is : key_toward k rows ≡ key
  pub rows_are : (k ≡ key) × (rows_of nodes' ≡ shifted k (rows_of nodes)) ⊎ (k ≡ key → ⊥) × (rows_of nodes' ≡ without k (rows_of nodes))

-- a page of the level goes: what is left stands under the rows without its row, and, with the edge of the next page
-- brought down, under the rows of which the next took its place
pub record IsMissing (k : ℕ) (rows : List (Row ℕ)) (g : ℕ) (nodes nodes' : List (Node ℕ)) : Type 0 where
  pub same : g ≡ k
  pub has : HasKey k rows
  pub rows_are : rows_of nodes' ≡ without k (rows_of nodes)
  pub level : Level None (without k rows) nodes'
  pub starts : Starts (without k rows) nodes'
  pub next : Level None (shifted k rows) (with_first_keys (shifted k rows) nodes')
  pub next_starts : Starts (shifted k rows) (with_first_keys (shifted k rows) nodes')
  pub next_rows : rows_of (with_first_keys (shifted k rows) nodes') ≡ shifted k (rows_of nodes)

abbrev pub IsCutOut : ℕ → List (Row ℕ) → List (Node ℕ) → List (Node ℕ) → Option ℕ → Type 0
IsCutOut k rows nodes nodes' None = IsKept k rows nodes nodes'
IsCutOut k rows nodes nodes' (Some g) = IsMissing k rows g nodes nodes'

pub record IsOut (k : ℕ) (rows : List (Row ℕ)) (nodes : List (Node ℕ)) (c : Taken ℕ) : Type 0 where
  pub fewer : (p : ℕ) → count p (pages_of c.nodes) ≤ count p (pages_of nodes)
  pub left : IsCutOut k rows nodes c.nodes c.gone_key

-- a page with one row, which is taken
one_row : (k key : ℕ) (xs : List (Row ℕ)) → StartsAt key xs → without k xs ≡ [] → (z : Row ℕ) × (xs ≡ z ∷ []) × (k ≡ z.key)
one_row k key [] s none = absurd s
one_row k key (x ∷ xs) s none = elim (cases_eq k x.key) [
  | inl same ↦ (x, ap (λ l. x ∷ l) (sym (without_same k x xs same) ∙ none), same)
  | inr other ↦ absurd (let e = sym (without_other k x xs other) ∙ none in some x (without k xs) e)
]
  where
    some : (y : Row ℕ) (ys : List (Row ℕ)) → y ∷ ys ≡ [] → ⊥
    some y ys e = cc

more_rows : (k key : ℕ) (xs : List (Row ℕ)) (y : Row ℕ) (ys R : List (Row ℕ)) → StartsAt key xs → without k xs ≡ y ∷ ys
    → (k ≡ key) × (with_first_key key (y ∷ ys) ++ R ≡ shifted k (xs ++ R)) ⊎ (k ≡ key → ⊥) × (with_first_key key (y ∷ ys) ++ R ≡ (y ∷ ys) ++ R)
more_rows k key [] y ys R s is = absurd s
more_rows k key (x ∷ xs) y ys R s is = elim (cases_eq k x.key) [
  | inl same ↦ inl (
    same ∙ s,
    ap (λ (j : ℕ). with_first_key j (y ∷ ys) ++ R) (sym s ∙ sym same)
        ∙ ap (λ l. with_first_key k (l ++ R)) (sym is ∙ without_same k x xs same)
        ∙ sym (shifted_same k x (xs ++ R) same),
  )
  | inr other ↦ inr (λ e. other (e ∙ sym s), ap (λ l. l ++ R) (first_key_same key (y ∷ ys) (subst (StartsAt key) (sym (without_other k x xs other) ∙ is) s)))
]

-- the pages behind the one that goes, the edge of the first brought down
next_heads : (k : ℕ) (rest : List (Row ℕ)) (ns : List (Node ℕ)) → Within (suc k) None rest → Level None rest ns → Starts rest ns
    → Level None (with_first_key k rest) (with_first_keys (with_first_key k rest) ns) × Starts (with_first_key k rest) (with_first_keys (with_first_key k rest) ns)
    × (rows_of (with_first_keys (with_first_key k rest) ns) ≡ with_first_key k (rows_of ns))
next_heads k [] [] w l s = (tt, tt, refl)
next_heads k [] (m ∷ ns) w l s = absurd l
next_heads k (q ∷ rest) [] w l s = absurd l
next_heads k (q ∷ rest) (m ∷ ns) w l s =
    let same = first_keys_same rest ns s.1 in (
      (l.0, first_key_within q.key k (next_key rest None) m.rows (omega (arith, w.0)) l.1, subst (Level None rest) (sym same) l.2),
      (first_key_starts k q.key m.rows s.0, subst (Starts rest) (sym same) s.1),
      ap (λ l. with_first_key k m.rows ++ rows_of l) same ∙ sym (first_key_append k q.key m.rows (rows_of ns) s.0),
    )

index_here : (k : ℕ) (r : Row ℕ) (rest : List (Row ℕ)) (n : Node ℕ) (ns : List (Node ℕ)) → Within r.key None (r ∷ rest) → Level None (r ∷ rest) (n ∷ ns) → Starts (r ∷ rest) (n ∷ ns)
    → is_below_first k rest ≡ true → (rs : List (Row ℕ)) → without k n.rows ≡ rs → IsOut k (r ∷ rest) (n ∷ ns) (kept_page r.key n (with_first_key r.key rs) ns)
index_here k r rest n ns w l s e [] is =
    let one = one_row k r.key n.rows s.0 is in
    let at_key : k ≡ r.key = one.2 ∙ subst (StartsAt r.key) one.1 s.0 in
    let behind = next_heads k rest ns (subst (λ j. Within (suc j) None rest) (sym at_key) w.2) l.2 s.1 in
    let without_is = without_same k r rest at_key in
    let shifted_is = shifted_same k r rest at_key in
    record {
      fewer = λ p. omega arith;
      left = record {
        same = sym at_key;
        has = inl at_key;
        rows_are = ap (λ l. l ++ rows_of ns) (sym is) ∙ sym (without_left (suc k) None k n.rows (rows_of ns) (omega arith)
            (level_within (suc k) None rest ns (here_within k (suc r.key) None rest e w.2) l.2));
        level = subst (λ l. Level None l ns) (sym without_is) l.2;
        starts = subst (λ l. Starts l ns) (sym without_is) s.1;
        next = subst (λ l. Level None l (with_first_keys l ns)) (sym shifted_is) behind.0;
        next_starts = subst (λ l. Starts l (with_first_keys l ns)) (sym shifted_is) behind.1;
        next_rows = ap (λ l. rows_of (with_first_keys l ns)) shifted_is ∙ behind.2 ∙ sym (ap (λ l. shifted k (l ++ rows_of ns)) one.1 ∙ shifted_same k one.0 (rows_of ns) one.2);
      };
    }
index_here k r rest n ns w l s e (y ∷ ys) is =
    let bound = next_key rest None in
    let is_within = subst (Within r.key bound) is (without_within r.key bound k n.rows l.1) in
    record {
      fewer = λ p. omega arith;
      left = record {
        level = (l.0, first_key_within r.key r.key bound (y ∷ ys) (omega arith) is_within, l.2);
        starts = (refl, s.1);
        key = r.key;
        key_is = toward_here (λ r. r.key) k (suc r.key) None r rest e w.2;
        rows_are = elim (more_rows k r.key n.rows y ys (rows_of ns) s.0 is) [
          | inl a ↦ inl a
          | inr b ↦ inr (
            b.0,
            b.1 ∙ ap (λ l. l ++ rows_of ns) (sym is) ∙ sym (without_left (suc k) None k n.rows (rows_of ns) (omega arith)
                (level_within (suc k) None rest ns (here_within k (suc r.key) None rest e w.2) l.2)),
          )
        ];
      };
    }

out_past : (k : ℕ) (r q : Row ℕ) (rest : List (Row ℕ)) (n m : Node ℕ) (ns nodes : List (Node ℕ)) (o : Option ℕ) → Within r.key None (r ∷ q ∷ rest)
    → Level None (r ∷ q ∷ rest) (n ∷ m ∷ ns) → Starts (r ∷ q ∷ rest) (n ∷ m ∷ ns) → q.key ≤ k → IsCutOut k (q ∷ rest) (m ∷ ns) nodes o → IsCutOut k (r ∷ q ∷ rest) (n ∷ m ∷ ns) (n ∷ nodes) o
out_past k r q rest n m ns nodes None w l s le h = record {
  level = (l.0, l.1, h.level);
  starts = (s.0, h.starts);
  key = h.key;
  key_is = toward_later (λ r. r.key) k r (q ∷ rest) (le-ltb k q.key le) ∙ h.key_is;
  rows_are = elim h.rows_are [
    | inl a ↦ inl (a.0, ap (λ l. n.rows ++ l) a.1 ∙ sym (shifted_right r.key q.key k n.rows (rows_of (m ∷ ns)) le l.1))
    | inr b ↦ inr (b.0, ap (λ l. n.rows ++ l) b.1 ∙ sym (without_right r.key q.key k n.rows (rows_of (m ∷ ns)) le l.1))
  ];
}
out_past k r q rest n m ns nodes (Some g) w l s le h =
    let other : k ≡ r.key → ⊥ = λ same. omega (arith, same, le, w.2.0) in
    let without_is = without_other k r (q ∷ rest) other in
    let shifted_is = shifted_other k r (q ∷ rest) other in
    let new = shifted k (q ∷ rest) in
    let head_is : with_first_keys (r ∷ new) (n ∷ nodes) ≡ n ∷ with_first_keys new nodes =
    ap (λ (rs : List (Row ℕ)). record { page = n.page; prev = n.prev; next = n.next; rows = rs } ∷ with_first_keys new nodes) (first_key_same r.key n.rows s.0) in
    record {
      same = h.same;
      has = inr h.has;
      rows_are = ap (λ l. n.rows ++ l) h.rows_are ∙ sym (without_right r.key q.key k n.rows (rows_of (m ∷ ns)) le l.1);
      level = level_past k r q rest n nodes w h.has l.0 l.1 h.level;
      starts = subst (λ l. Starts l (n ∷ nodes)) (sym without_is) (s.0, h.starts);
      next = subst (λ l. Level None l (with_first_keys l (n ∷ nodes))) (sym shifted_is) (subst (Level None (r ∷ new)) (sym head_is)
          (subst (λ l. Level None l (n ∷ with_first_keys new nodes)) shifted_is (shifted_past k r q rest n (with_first_keys new nodes) w h.has l.0 l.1 h.next)));
      next_starts = subst (λ l. Starts l (with_first_keys l (n ∷ nodes))) (sym shifted_is) (subst (Starts (r ∷ new)) (sym head_is) (s.0, h.next_starts));
      next_rows = ap (λ l. rows_of (with_first_keys l (n ∷ nodes))) shifted_is ∙ ap (λ l. rows_of l) head_is ∙ ap (λ l. n.rows ++ l) h.next_rows
          ∙ sym (shifted_right r.key q.key k n.rows (rows_of (m ∷ ns)) le l.1);
    }

index_past : (k : ℕ) (r q : Row ℕ) (rest : List (Row ℕ)) (n m : Node ℕ) (ns : List (Node ℕ)) (c : Taken ℕ) → Within r.key None (r ∷ q ∷ rest)
    → Level None (r ∷ q ∷ rest) (n ∷ m ∷ ns) → Starts (r ∷ q ∷ rest) (n ∷ m ∷ ns) → q.key ≤ k → IsOut k (q ∷ rest) (m ∷ ns) c → IsOut k (r ∷ q ∷ rest) (n ∷ m ∷ ns) (before_taken n c)
index_past k r q rest n m ns c w l s le h = record {
  fewer = λ p. let e = h.fewer p in omega (arith, e);
  left = out_past k r q rest n m ns c.nodes c.gone_key w l s le h.left;
}

index_out : (k : ℕ) (r : Row ℕ) (rest : List (Row ℕ)) (n : Node ℕ) (ns : List (Node ℕ)) → Within r.key None (r ∷ rest) → Level None (r ∷ rest) (n ∷ ns) → Starts (r ∷ rest) (n ∷ ns)
    → IsOut k (r ∷ rest) (n ∷ ns) (take_row (index_without k) k (r ∷ rest) (n ∷ ns))
index_out k r [] n [] w l s = index_here k r [] n [] w l s refl (without k n.rows) refl
index_out k r [] n (m ∷ ns) w l s = absurd l.2
index_out k r (q ∷ rest) n [] w l s = absurd l.2
index_out k r (q ∷ rest) n (m ∷ ns) w l s = elim (cases_Bool (nat_lt k q.key)) [
  | inl e ↦ subst (IsOut k (r ∷ q ∷ rest) (n ∷ m ∷ ns)) (sym (take_here (index_without k) k r (q ∷ rest) n (m ∷ ns) e)) (index_here k r (q ∷ rest) n (m ∷ ns) w l s e (without k n.rows) refl)
  | inr e ↦ subst (IsOut k (r ∷ q ∷ rest) (n ∷ m ∷ ns)) (sym (take_later (index_without k) k r (q ∷ rest) n (m ∷ ns) e))
      (index_past k r q rest n m ns (take_row (index_without k) k (q ∷ rest) (m ∷ ns)) w l s (ltb-false k q.key e) (index_out k q rest m ns (omega arith, w.2.1, w.2.2) l.2 s.1))
]

pub index_out_at : (k low : ℕ) (rows : List (Row ℕ)) (nodes : List (Node ℕ)) → StartsAt low rows → Within low None rows → Level None rows nodes → Starts rows nodes
    → IsOut k rows nodes (take_row (index_without k) k rows nodes)
index_out_at k low [] nodes at w l s = absurd at
index_out_at k low (r ∷ rest) [] at w l s = absurd l
index_out_at k low (r ∷ rest) (n ∷ ns) at w l s = index_out k r rest n ns (omega arith, w.1, w.2) l s
