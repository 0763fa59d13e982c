-- How often numbers stand in a list.
use Rattle.std.proofs.Common.{◌≡◌, ◌≢◌, ◌<◌, ◌+◌, ℕ, zero, suc, List, [], ◌∷◌, ◌++◌, cond, refl, sym, ap, ◌∙◌, subst, arith, eq-eqb, ne_eqb}
use Rattle.std.specs.Prelude.{◌==◌, nat_lt, if◌then◌else◌}
use Rattle.std.specs.List.{range_with_len}
use Rattle.std.specs.List.Sorted.{IsPermutation}
use Rattle.std.proofs.lemmas.Bool.Decides.{nat_tests}
use Rattle.std.proofs.lemmas.List.Sums.{sum_by-append, sum_by-cons}
use Rattle.std.proofs.lemmas.List.Sorted.{IsPermutation-refl, IsPermutation-cons, IsPermutation-middle, IsPermutation-sym, IsPermutation-trans}
use mathlib.Core.Logic.{dite}
use native.Mathlib.Decide.{ℕ_discrete}
use Rattle.ck_claim.specs.Shown.{numbers_below}
use Rattle.ck_claim.specs.Rule.{times, once_below}

-- 1 for the number itself
one_at : ℕ → ℕ → ℕ
one_at x y = cond (x == y) 1 0

pub times-append : (x : ℕ) (xs ys : List ℕ) → times x (xs ++ ys) ≡ times x xs + times x ys
times-append x xs ys = sum_by-append (λ y. cond (x == y) 1 0) xs ys

pub times-cons : (x y : ℕ) (ys : List ℕ) → times x (y ∷ ys) ≡ cond (x == y) 1 0 + times x ys
times-cons x y ys = sum_by-cons (λ y. cond (x == y) 1 0) y ys

pub times-same : (x : ℕ) (ys : List ℕ) → times x (x ∷ ys) ≡ 1 + times x ys
times-same x ys = times-cons x x ys ∙ ap (λ b. cond b 1 0 + times x ys) (eq-eqb x x refl)

pub times-other : (x y : ℕ) (ys : List ℕ) → x ≢ y → times x (y ∷ ys) ≡ times x ys
times-other x y ys ne = times-cons x y ys ∙ (ap (λ b. cond b 1 0 + times x ys) (ne_eqb x y ne) ∙ omega arith)

pub once_more : (x n : ℕ) → once_below x (n + 1) ≡ once_below x n + times x (n ∷ [])
once_more x n = grind (arith, nat_tests)

-- a number that stands in a list parts it in two
found : (x : ℕ) (ys : List ℕ) → 0 < times x ys → (us : List ℕ) × (vs : List ℕ) × (ys ≡ us ++ x ∷ vs)
found x [] some_time = absurd (omega arith)
found x (y ∷ ys) some_time = dite (ℕ_discrete x y)
    (λ (e : x ≡ y). ([], ys, ap (λ z. z ∷ ys) (sym e)))
    (λ (ne : x ≢ y). let other = times-other x y ys ne in let r = found x ys (omega arith) in (y ∷ r.0, r.1, ap (λ zs. y ∷ zs) r.2))

-- two lists in which each number stands as often are one list in two orders
pub same_times : (xs ys : List ℕ) → ((x : ℕ) → times x xs ≡ times x ys) → IsPermutation xs ys
same_times [] [] same = IsPermutation-refl []
same_times [] (y ∷ ys) same = let e = same y in let f = times-same y ys in absurd (omega arith)
same_times (x ∷ xs) ys same =
    let here = times-same x xs in
    let e = same x in
    let r = found x ys (omega arith) in
    let rest : (z : ℕ) → times z xs ≡ times z (r.0 ++ r.1) = λ z.
    let a = times-cons z x xs in
    let b = times-append z r.0 (x ∷ r.1) in
    let c = times-cons z x r.1 in
    let d = times-append z r.0 r.1 in
    let f : times z ys ≡ times z (r.0 ++ x ∷ r.1) = ap (times z) r.2 in
    let g = same z in
    omega arith in
    let together = IsPermutation-trans (x ∷ xs) (x ∷ (r.0 ++ r.1)) (r.0 ++ x ∷ r.1)
    (IsPermutation-cons x xs (r.0 ++ r.1) (same_times xs (r.0 ++ r.1) rest))
    (IsPermutation-sym (r.0 ++ x ∷ r.1) (x ∷ (r.0 ++ r.1)) (IsPermutation-middle r.0 x r.1)) in
    subst (IsPermutation (x ∷ xs)) (sym r.2) together

-- the numbers from a on, below a + n
times_from : (x a n : ℕ) → times x (range_with_len a n) ≡ (if nat_lt x a then 0 else (if nat_lt x (a + n) then 1 else 0))
times_from x a zero = grind (arith, nat_tests)
times_from x a (suc n) = let c = times-cons x a (range_with_len (a + 1) n) in let r = times_from x (a + 1) n in grind (arith, nat_tests)

pub times-numbers_below : (x n : ℕ) → times x (numbers_below n) ≡ once_below x n
times-numbers_below x n = let r = times_from x 0 n in grind (arith, nat_tests)
