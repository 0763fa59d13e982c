-- What keys hold where a row was put or taken.
use Rattle.std.proofs.Common.{◌≡◌, ℕ, suc, ◌<◌, List, [], ◌∷◌, Option, Some, None, refl, sym, ap, ◌∙◌, inl, inr, arith}
use Rattle.std.proofs.lemmas.Bool.{cases_order, cases_eq}
use Rattle.spec_levels.specs.Levels.{Row, keys_of}
use Rattle.spec_ways.specs.Rows.{with_row, without, value_at}
use Rattle.law_ways.proofs.Bounds.{Within}
use Rattle.law_ways.proofs.RowLaws.{with_less, with_same, with_more, without_same, without_other, value_same, value_other}

module _ {V : Type 0} where
  pub with_value : (x : Row V) (xs : List (Row V)) → value_at x.key (with_row x xs) ≡ Some x.value
  with_value x [] = value_same x.key x [] refl
  with_value x (y ∷ ys) = elim (cases_order x.key y.key) [
    | inl same ↦ ap (value_at x.key) (with_same x y ys same) ∙ value_same x.key x ys refl
    | inr (inl less) ↦ ap (value_at x.key) (with_less x y ys less) ∙ value_same x.key x (y ∷ ys) refl
    | inr (inr more) ↦ ap (value_at x.key) (with_more x y ys more) ∙ value_other x.key y (with_row x ys) (λ same. omega (arith, same, more)) ∙ with_value x ys
  ]

  -- a row in front
  alike : (k : ℕ) (y : Row V) (ys zs : List (Row V)) → value_at k ys ≡ value_at k zs → value_at k (y ∷ ys) ≡ value_at k (y ∷ zs)
  alike k y ys zs e = elim (cases_eq k y.key) [
    | inl same ↦ value_same k y ys same ∙ sym (value_same k y zs same)
    | inr other ↦ value_other k y ys other ∙ e ∙ sym (value_other k y zs other)
  ]

  pub with_others : (k : ℕ) (x : Row V) (xs : List (Row V)) → (k ≡ x.key → ⊥) → value_at k (with_row x xs) ≡ value_at k xs
  with_others k x [] other = value_other k x [] other
  with_others k x (y ∷ ys) other = elim (cases_order x.key y.key) [
    | inl same ↦ ap (value_at k) (with_same x y ys same) ∙ value_other k x ys other ∙ sym (value_other k y ys (λ e. other (e ∙ sym same)))
    | inr (inl less) ↦ ap (value_at k) (with_less x y ys less) ∙ value_other k x (y ∷ ys) other
    | inr (inr more) ↦ ap (value_at k) (with_more x y ys more) ∙ alike k y (with_row x ys) ys (with_others k x ys other)
  ]

  -- keys below all that the rows have
  pub none_below : (k low : ℕ) (high : Option ℕ) (xs : List (Row V)) → k < low → Within low high xs → value_at k xs ≡ None
  none_below k low high [] less w = refl
  none_below k low high (x ∷ xs) less w =
      value_other k x xs (λ same. omega (arith, same, less, w.0)) ∙ none_below k (suc x.key) high xs (omega (arith, less, w.0)) w.2

  pub with_keys : (low : ℕ) (high : Option ℕ) (x : Row V) (xs : List (Row V)) (v : V) → Within low high xs → value_at x.key xs ≡ Some v → keys_of (with_row x xs) ≡ keys_of xs
  with_keys low high x [] v w e = absurd (cc)
  with_keys low high x (y ∷ ys) v w e = elim (cases_order x.key y.key) [
    | inl same ↦ ap (λ l. keys_of l) (with_same x y ys same) ∙ ap (λ (j : ℕ). j ∷ keys_of ys) same
    | inr (inl less) ↦
        let none = none_below x.key y.key high (y ∷ ys) less (omega arith, w.1, w.2) in let f = sym none ∙ e in absurd (cc)
    | inr (inr more) ↦
        ap (λ l. keys_of l) (with_more x y ys more)
        ∙ ap (λ l. y.key ∷ l) (with_keys (suc y.key) high x ys v w.2 (sym (value_other x.key y ys (λ same. omega (arith, same, more))) ∙ e))
  ]

  pub without_value : (low : ℕ) (high : Option ℕ) (k : ℕ) (xs : List (Row V)) → Within low high xs → value_at k (without k xs) ≡ None
  without_value low high k [] w = refl
  without_value low high k (y ∷ ys) w = elim (cases_eq k y.key) [
    | inl same ↦ ap (value_at k) (without_same k y ys same) ∙ none_below k (suc y.key) high ys (omega (arith, same)) w.2
    | inr other ↦ ap (value_at k) (without_other k y ys other) ∙ value_other k y (without k ys) other ∙ without_value (suc y.key) high k ys w.2
  ]

  pub without_others : (j k : ℕ) (xs : List (Row V)) → (j ≡ k → ⊥) → value_at j (without k xs) ≡ value_at j xs
  without_others j k [] other = refl
  without_others j k (y ∷ ys) other = elim (cases_eq k y.key) [
    | inl same ↦ ap (value_at j) (without_same k y ys same) ∙ sym (value_other j y ys (λ e. other (e ∙ sym same)))
    | inr there ↦ ap (value_at j) (without_other k y ys there) ∙ alike j y (without k ys) ys (without_others j k ys other)
  ]

  pub without_none : (k : ℕ) (xs : List (Row V)) → value_at k xs ≡ None → without k xs ≡ xs
  without_none k [] e = refl
  without_none k (y ∷ ys) e = elim (cases_eq k y.key) [
    | inl same ↦ let f = sym (value_same k y ys same) ∙ e in absurd (cc)
    | inr other ↦ without_other k y ys other ∙ ap (λ l. y ∷ l) (without_none k ys (sym (value_other k y ys other) ∙ e))
  ]
