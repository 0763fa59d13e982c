-- Rows in the order of their keys, joined.
use Rattle.std.proofs.Common.{◌≡◌, ℕ, suc, ◌<◌, ◌≤◌, List, [], ◌∷◌, ◌++◌, Option, Some, None, refl, sym, ap, ◌∙◌, subst, inl, inr, arith}
use Rattle.std.proofs.lemmas.Bool.{cases_order, cases_eq, lt-ltb, le-ltb, eq-eqb, ne_eqb}
use Rattle.spec_levels.specs.Levels.{Row, IsBelow}
use Rattle.spec_ways.specs.Rows.{with_row, without, value_at}
use Rattle.law_ways.proofs.Bounds.{Within}

pub below_below : (a b : ℕ) (high : Option ℕ) → a ≤ b → IsBelow b high → IsBelow a high
below_below a b None le h = h
below_below a b (Some c) le h = omega (arith, le, h)

module _ {V : Type 0} where
  pub with_less : (x y : Row V) (ys : List (Row V)) → x.key < y.key → with_row x (y ∷ ys) ≡ x ∷ y ∷ ys
  with_less x y ys less = let e = lt-ltb x.key y.key less in rw e refl

  pub with_same : (x y : Row V) (ys : List (Row V)) → x.key ≡ y.key → with_row x (y ∷ ys) ≡ x ∷ ys
  with_same x y ys same = let e = le-ltb x.key y.key (omega (arith, same)) in let f = eq-eqb x.key y.key same in rw (e, f) refl

  pub with_more : (x y : Row V) (ys : List (Row V)) → y.key < x.key → with_row x (y ∷ ys) ≡ y ∷ with_row x ys
  with_more x y ys more =
      let e = le-ltb x.key y.key (omega (arith, more)) in
      let f = ne_eqb x.key y.key (λ same. omega (arith, same, more)) in rw (e, f) refl

  pub without_same : (k : ℕ) (y : Row V) (ys : List (Row V)) → k ≡ y.key → without k (y ∷ ys) ≡ ys
  without_same k y ys same = let f = eq-eqb k y.key same in rw f refl

  pub without_other : (k : ℕ) (y : Row V) (ys : List (Row V)) → (k ≡ y.key → ⊥) → without k (y ∷ ys) ≡ y ∷ without k ys
  without_other k y ys other = let f = ne_eqb k y.key other in rw f refl

  pub value_same : (k : ℕ) (y : Row V) (ys : List (Row V)) → k ≡ y.key → value_at k (y ∷ ys) ≡ Some y.value
  value_same k y ys same = let f = eq-eqb k y.key same in rw f refl

  pub value_other : (k : ℕ) (y : Row V) (ys : List (Row V)) → (k ≡ y.key → ⊥) → value_at k (y ∷ ys) ≡ value_at k ys
  value_other k y ys other = let f = ne_eqb k y.key other in rw f refl

  -- bounds that widen
  pub from_lower : (low low' : ℕ) (high : Option ℕ) (xs : List (Row V)) → low' ≤ low → Within low high xs → Within low' high xs
  from_lower low low' high [] le w = w
  from_lower low low' high (x ∷ xs) le w = (omega (arith, le, w.0), w.1, w.2)

  pub to_higher : (low : ℕ) (high high' : Option ℕ) (xs : List (Row V)) → ((k : ℕ) → IsBelow k high → IsBelow k high') → Within low high xs → Within low high' xs
  to_higher low high high' [] le w = w
  to_higher low high high' (x ∷ xs) le w = (w.0, le x.key w.1, to_higher (suc x.key) high high' xs le w.2)

  pub join_within : (low mid : ℕ) (high : Option ℕ) (xs ys : List (Row V)) → low ≤ mid → ((k : ℕ) → k < mid → IsBelow k high)
      → Within low (Some mid) xs → Within mid high ys → Within low high (xs ++ ys)
  join_within low mid high [] ys le below w v = from_lower mid low high ys le v
  join_within low mid high (x ∷ xs) ys le below w v =
      (w.0, below x.key w.1, join_within (suc x.key) mid high xs ys w.1 below w.2 v)

  -- a row at its place
  pub with_within : (low : ℕ) (high : Option ℕ) (x : Row V) (xs : List (Row V)) → low ≤ x.key → IsBelow x.key high → Within low high xs → Within low high (with_row x xs)
  with_within low high x [] le below w = (le, below, w)
  with_within low high x (y ∷ ys) le below w = elim (cases_order x.key y.key) [
    | inl same ↦ subst (Within low high) (sym (with_same x y ys same)) (le, below, subst (λ k. Within (suc k) high ys) (sym same) w.2)
    | inr (inl less) ↦ subst (Within low high) (sym (with_less x y ys less)) (le, below, (less, w.1, w.2))
    | inr (inr more) ↦ subst (Within low high) (sym (with_more x y ys more)) (w.0, w.1, with_within (suc y.key) high x ys more below w.2)
  ]

  pub with_front : (low : ℕ) (high : Option ℕ) (x : Row V) (ys : List (Row V)) → x.key < low → Within low high ys → with_row x ys ≡ x ∷ ys
  with_front low high x [] less w = refl
  with_front low high x (y ∷ ys) less w = with_less x y ys (omega (arith, less, w.0))

  pub with_left : (low : ℕ) (high : Option ℕ) (x : Row V) (xs ys : List (Row V)) → x.key < low → Within low high ys → with_row x (xs ++ ys) ≡ with_row x xs ++ ys
  with_left low high x [] ys less w = with_front low high x ys less w
  with_left low high x (z ∷ zs) ys less w = elim (cases_order x.key z.key) [
    | inl same ↦ with_same x z (zs ++ ys) same ∙ ap (λ l. l ++ ys) (sym (with_same x z zs same))
    | inr (inl under) ↦ with_less x z (zs ++ ys) under ∙ ap (λ l. l ++ ys) (sym (with_less x z zs under))
    | inr (inr more) ↦ with_more x z (zs ++ ys) more ∙ ap (λ l. z ∷ l) (with_left low high x zs ys less w) ∙ ap (λ l. l ++ ys) (sym (with_more x z zs more))
  ]

  pub with_right : (low mid : ℕ) (x : Row V) (xs ys : List (Row V)) → mid ≤ x.key → Within low (Some mid) xs → with_row x (xs ++ ys) ≡ xs ++ with_row x ys
  with_right low mid x [] ys le w = refl
  with_right low mid x (z ∷ zs) ys le w =
      with_more x z (zs ++ ys) (omega (arith, le, w.1)) ∙ ap (λ l. z ∷ l) (with_right (suc z.key) mid x zs ys le w.2)

  -- a row taken away
  pub absent : (low : ℕ) (high : Option ℕ) (k : ℕ) (xs : List (Row V)) → k < low → Within low high xs → without k xs ≡ xs
  absent low high k [] less w = refl
  absent low high k (x ∷ xs) less w =
      without_other k x xs (λ same. omega (arith, same, less, w.0)) ∙ ap (λ l. x ∷ l) (absent (suc x.key) high k xs (omega (arith, less, w.0)) w.2)

  pub without_within : (low : ℕ) (high : Option ℕ) (k : ℕ) (xs : List (Row V)) → Within low high xs → Within low high (without k xs)
  without_within low high k [] w = w
  without_within low high k (x ∷ xs) w = elim (cases_eq k x.key) [
    | inl same ↦ subst (Within low high) (sym (without_same k x xs same)) (from_lower (suc x.key) low high xs (omega (arith, w.0)) w.2)
    | inr other ↦ subst (Within low high) (sym (without_other k x xs other)) (w.0, w.1, without_within (suc x.key) high k xs w.2)
  ]

  pub without_left : (low : ℕ) (high : Option ℕ) (k : ℕ) (xs ys : List (Row V)) → k < low → Within low high ys → without k (xs ++ ys) ≡ without k xs ++ ys
  without_left low high k [] ys less w = absent low high k ys less w
  without_left low high k (z ∷ zs) ys less w = elim (cases_eq k z.key) [
    | inl same ↦ without_same k z (zs ++ ys) same ∙ ap (λ l. l ++ ys) (sym (without_same k z zs same))
    | inr other ↦ without_other k z (zs ++ ys) other ∙ ap (λ l. z ∷ l) (without_left low high k zs ys less w) ∙ ap (λ l. l ++ ys) (sym (without_other k z zs other))
  ]

  pub without_right : (low mid k : ℕ) (xs ys : List (Row V)) → mid ≤ k → Within low (Some mid) xs → without k (xs ++ ys) ≡ xs ++ without k ys
  without_right low mid k [] ys le w = refl
  without_right low mid k (z ∷ zs) ys le w =
      without_other k z (zs ++ ys) (λ same. omega (arith, same, le, w.1)) ∙ ap (λ l. z ∷ l) (without_right (suc z.key) mid k zs ys le w.2)

  -- what a row holds
  pub holds_none : (low : ℕ) (high : Option ℕ) (k : ℕ) (xs : List (Row V)) → k < low → Within low high xs → value_at k xs ≡ None
  holds_none low high k [] less w = refl
  holds_none low high k (x ∷ xs) less w =
      value_other k x xs (λ same. omega (arith, same, less, w.0)) ∙ holds_none (suc x.key) high k xs (omega (arith, less, w.0)) w.2

  pub value_left : (low : ℕ) (high : Option ℕ) (k : ℕ) (xs ys : List (Row V)) → k < low → Within low high ys → value_at k (xs ++ ys) ≡ value_at k xs
  value_left low high k [] ys less w = holds_none low high k ys less w
  value_left low high k (z ∷ zs) ys less w = elim (cases_eq k z.key) [
    | inl same ↦ value_same k z (zs ++ ys) same ∙ sym (value_same k z zs same)
    | inr other ↦ value_other k z (zs ++ ys) other ∙ value_left low high k zs ys less w ∙ sym (value_other k z zs other)
  ]

  pub value_right : (low mid k : ℕ) (xs ys : List (Row V)) → mid ≤ k → Within low (Some mid) xs → value_at k (xs ++ ys) ≡ value_at k ys
  value_right low mid k [] ys le w = refl
  value_right low mid k (z ∷ zs) ys le w = value_other k z (zs ++ ys) (λ same. omega (arith, same, le, w.1)) ∙ value_right (suc z.key) mid k zs ys le w.2
