-- Numbers below a bound of which no two are the same are no more than the bound.
use Rattle.std.specs.Prelude.{◌≡◌, ◌≢◌, ℕ, zero, suc, ◌<◌, ◌≤◌, false, true, List, [], ◌∷◌, length}
use Rattle.std.proofs.Common.{eqb, arith, refl, ⊎_elim, sym, subst, ap}
use Rattle.std.specs.List.{IsDistinct, list_any, AllByRecursion}
use Rattle.std.proofs.lemmas.Bool.{ne_eqb, eqb-true, or_cases}
use Rattle.std.proofs.lemmas.Map.Steps.{length-le_from_distinct_below}

-- the first n values of f, the last first
abbrev names : (ℕ → ℕ) → ℕ → List ℕ
names f zero = []
names f (suc n) = f n ∷ names f n

length-names : (f : ℕ → ℕ) (n : ℕ) → length (names f n) ≡ n
length-names f zero = refl
length-names f (suc n) = ap suc (length-names f n)

apart : (f : ℕ → ℕ) (n m : ℕ) → ((j : ℕ) → j < n → f m ≢ f j) → AllByRecursion (λ y. eqb (f m) y ≡ false) (names f n)
apart f zero m h = tt
apart f (suc n) m h = (ne_eqb (f m) (f n) (h n (omega arith)), apart f n m (λ j l. h j (omega (arith, l))))

distinct : (f : ℕ → ℕ) (n : ℕ) → ((i j : ℕ) → j < i → i < n → f i ≢ f j) → IsDistinct eqb (names f n)
unfolding IsDistinct
distinct f zero h = tt
distinct f (suc n) h = (apart f n n (λ j l. h n j l (omega arith)), distinct f n (λ i j l m. h i j l (omega (arith, m))))

bounded : (f : ℕ → ℕ) (n bound q : ℕ) → ((i : ℕ) → i < n → f i < bound) → list_any (eqb q) (names f n) ≡ true → q < bound
bounded f zero bound q h member = absurd (cc)
bounded f (suc n) bound q h member = ⊎_elim
    (λ here. subst (λ k. k < bound) (sym (eqb-true q (f n) here)) (h n (omega arith)))
    (λ there. bounded f n bound q (λ i l. h i (omega (arith, l))) there)
    (or_cases (eqb q (f n)) (list_any (eqb q) (names f n)) member)

pub pigeons : (f : ℕ → ℕ) (n bound : ℕ) → ((i j : ℕ) → j < i → i < n → f i ≢ f j) → ((i : ℕ) → i < n → f i < bound) → n ≤ bound
pigeons f n bound differ below =
    let few = length-le_from_distinct_below (names f n) bound (distinct f n differ) (λ q member. bounded f n bound q below member) in
    let size = length-names f n in omega (arith, few, size)
