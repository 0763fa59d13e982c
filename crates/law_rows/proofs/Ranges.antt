-- What holds of each number of a range.
use Rattle.std.proofs.Common.{◌≡◌, ℕ, zero, suc, ◌+◌, ◌<◌, ◌≤◌, Bool, true, refl, subst, inl, inr, arith}
use Rattle.std.specs.List.{list_all, range_with_len}
use Rattle.std.proofs.lemmas.Bool.{and_parts, and_from, cases_order}

pub all_of_range : (f : ℕ → Bool) (a n : ℕ) → ((i : ℕ) → a ≤ i → i < a + n → f i ≡ true) → list_all f (range_with_len a n) ≡ true
all_of_range f a zero each = refl
all_of_range f a (suc n) each =
    and_from (f a) (list_all f (range_with_len (a + 1) n)) (each a (omega arith) (omega arith))
    (all_of_range f (a + 1) n (λ i above below. each i (omega arith) (omega arith)))

pub each_of_range : (f : ℕ → Bool) (a n i : ℕ) → list_all f (range_with_len a n) ≡ true → a ≤ i → i < a + n → f i ≡ true
each_of_range f a zero i all above below = absurd (omega (arith, above, below))
each_of_range f a (suc n) i all above below =
    let parts = and_parts (f a) (list_all f (range_with_len (a + 1) n)) all in
    elim (cases_order a i) [
      | inl same ↦ subst (λ (k : ℕ). f k ≡ true) same parts.0
      | inr (inl less) ↦ each_of_range f (a + 1) n i parts.1 (omega (arith, less)) (omega (arith, below))
      | inr (inr more) ↦ absurd (omega (arith, above, more))
    ]

-- from 0 on
pub all_below : (f : ℕ → Bool) (n : ℕ) → ((i : ℕ) → i < n → f i ≡ true) → list_all f (range_with_len 0 n) ≡ true
all_below f n each = all_of_range f 0 n (λ i above below. each i (omega (arith, below)))

pub each_below : (f : ℕ → Bool) (n i : ℕ) → list_all f (range_with_len 0 n) ≡ true → i < n → f i ≡ true
each_below f n i all below = each_of_range f 0 n i all (omega arith) (omega (arith, below))
