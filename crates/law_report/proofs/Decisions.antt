-- Which statements can be decided: tests, equations of numbers, and what is made of decided statements.
use Rattle.std.proofs.Common.{◌≡◌, ◌≢◌, ◌⊎◌, ℕ, ◌<◌, ◌≤◌, Bool, true, false, IsTrue, Option, Some, None, arith, refl, inl, inr, ⊎_elim}
use Rattle.std.proofs.lemmas.Bool.{cases_eq, cases_lt, true≢false, false≢true}

pub dec_like : {A B : Type 0} → (A → B) → (B → A) → Dec A → Dec B
dec_like to from (yes a) = yes (to a)
dec_like to from (no h) = no (λ b. h (from b))

pub dec_not : {A : Type 0} → Dec A → Dec (A → ⊥)
dec_not (yes a) = no (λ h. h a)
dec_not (no h) = yes h

pub dec_and : {A B : Type 0} → Dec A → Dec B → Dec (A × B)
dec_and (yes a) (yes b) = yes (a, b)
dec_and (yes a) (no h) = no (λ p. h p.1)
dec_and (no h) b = no (λ p. h p.0)

pub dec_and3 : {A B C : Type 0} → Dec A → Dec B → Dec C → Dec (A × B × C)
dec_and3 a b c = dec_like (λ p. (p.0, p.1.0, p.1.1)) (λ p. (p.0, (p.1, p.2))) (dec_and a (dec_and b c))

pub dec_or : {A B : Type 0} → Dec A → Dec B → Dec (A ⊎ B)
dec_or (yes a) b = yes (inl a)
dec_or (no h) (yes b) = yes (inr b)
dec_or (no h) (no k) = no (λ p. ⊎_elim h k p)

-- the second need be decided only where the first holds
pub dec_if : {A B : Type 0} → Dec A → (A → Dec B) → Dec (A → B)
dec_if (no h) b = yes (λ a. absurd (h a))
dec_if {A} {B} (yes a) b = under (b a) where
  under : Dec B → Dec (A → B)
  under (yes c) = yes (λ x. c)
  under (no h) = no (λ f. h (f a))

pub dec_true : (b : Bool) → Dec (IsTrue b)
dec_true true = yes refl
dec_true false = no false≢true

pub dec_false : (b : Bool) → Dec (b ≡ false)
dec_false true = no true≢false
dec_false false = yes refl

pub dec_eq : (m n : ℕ) → Dec (m ≡ n)
dec_eq m n = ⊎_elim (λ e. yes e) (λ h. no h) (cases_eq m n)

pub dec_ne : (m n : ℕ) → Dec (m ≢ n)
dec_ne m n = dec_not (dec_eq m n)

pub dec_lt : (m n : ℕ) → Dec (m < n)
dec_lt m n = ⊎_elim (λ h. yes h) (λ h. no (λ less. omega arith)) (cases_lt m n)

pub dec_le : (m n : ℕ) → Dec (m ≤ n)
dec_le m n = ⊎_elim (λ less. no (λ h. omega arith)) (λ h. yes h) (cases_lt n m)

pub dec_none : {X : Type 0} (o : Option X) → Dec (o ≡ None)
dec_none None = yes refl
dec_none (Some x) = no (λ h. cc)
