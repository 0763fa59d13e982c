-- Rows that are made slot by slot: the first, the last, and those before and after one.
use Rattle.std.proofs.Common.{◌≡◌, ℕ, zero, suc, ◌+◌, Some, List, [], ◌∷◌, ◌++◌, length, map, refl, sym, ap, ◌∙◌, arith}
use Rattle.std.specs.List.{range_with_len}
use Rattle.spec_levels.specs.Levels.{Row, keys_of}
use Rattle.law_levels.specs.Known.{last_value, last_in}

abbrev pub made : {X : Type 0} → (ℕ → X) → ℕ → ℕ → List X
made f a n = map f (range_with_len a n)

pub last_key_made : {V : Type 0} (f : ℕ → Row V) (a n : ℕ) → last_in (keys_of (made f a (suc n))) ≡ Some (f (a + n)).key
last_key_made f a zero = let e : a ≡ a + 0 = omega arith in ap (λ k. Some (f k).key) e
last_key_made f a (suc n) = let e : a + 1 + n ≡ a + suc n = omega arith in last_key_made f (a + 1) n ∙ ap (λ k. Some (f k).key) e

pub last_value_made : (f : ℕ → Row ℕ) (a n : ℕ) → last_value (made f a (suc n)) ≡ (f (a + n)).value
last_value_made f a zero = let e : a ≡ a + 0 = omega arith in ap (λ k. (f k).value) e
last_value_made f a (suc n) = let e : a + 1 + n ≡ a + suc n = omega arith in last_value_made f (a + 1) n ∙ ap (λ k. (f k).value) e

-- slot i, and those before and after it
pub split_made : {X : Type 0} (f : ℕ → X) (a i m : ℕ) → made f a (i + suc m) ≡ made f a i ++ f (a + i) ∷ made f (a + i + 1) m
split_made {X = X} f a zero m =
    let all : 0 + suc m ≡ suc m = omega arith in
    let at : a ≡ a + 0 = omega arith in
    ap (made f a) all ∙ ap (λ k. f k ∷ made f (k + 1) m) at
split_made {X = X} f a (suc i) m =
    let all : suc i + suc m ≡ suc (i + suc m) = omega arith in
    let at : a + 1 + i ≡ a + suc i = omega arith in
    ap (made f a) all ∙ (ap (λ (xs : List X). f a ∷ xs) (split_made f (a + 1) i m) ∙ ap (λ k. f a ∷ (made f (a + 1) i ++ f k ∷ made f (k + 1) m)) at)

-- what stands at a place of made rows
pub record Slot {X : Type 0} (f : ℕ → X) (a n : ℕ) (front : List X) (x : X) (back : List X) : Type 0 where
  pub after : ℕ
  pub count : n ≡ length front + suc after
  pub before_is : front ≡ made f a (length front)
  pub is : x ≡ f (a + length front)
  pub after_is : back ≡ made f (a + length front + 1) after

no_split : {X : Type 0} (front : List X) (x : X) (back : List X) → [] ≡ front ++ x ∷ back → ⊥
no_split [] x back e = absurd (cc)
no_split (y ∷ front) x back e = absurd (cc)

pub slot_made : {X : Type 0} (f : ℕ → X) (a n : ℕ) (front : List X) (x : X) (back : List X) → made f a n ≡ front ++ x ∷ back → Slot f a n front x back
slot_made f a zero front x back e = absurd (no_split front x back e)
slot_made f a (suc n) [] x back e =
    let at : a ≡ a + 0 = omega arith in
    let head : f a ≡ x = cc in
    let tail : made f (a + 1) n ≡ back = cc in
    record { after = n; count = omega arith; before_is = refl; is = sym head ∙ ap f at; after_is = sym tail ∙ ap (λ k. made f (k + 1) n) at }
slot_made {X = X} f a (suc n) (y ∷ front) x back e =
    let head : f a ≡ y = cc in
    let tail : made f (a + 1) n ≡ front ++ x ∷ back = cc in
    let r = slot_made f (a + 1) n front x back tail in
    let at : a + 1 + length front ≡ a + suc (length front) = omega arith in
    let count = r.count in
    record {
      after = r.after;
      count = omega (arith, count);
      before_is = ap (λ (z : X). z ∷ front) (sym head) ∙ ap (λ (zs : List X). f a ∷ zs) r.before_is;
      is = r.is ∙ ap f at;
      after_is = r.after_is ∙ ap (λ k. made f (k + 1) r.after) at;
    }
