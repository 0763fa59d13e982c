-- A list of the values of a function at 0, 1, 2 and so on, one value longer.
use Rattle.std.proofs.Common.{◌≡◌, ℕ, zero, suc, ◌+◌, ◌<◌, List, [], ◌∷◌, ◌++◌, map, arith, ap, refl, sym, ◌∙◌}
use Rattle.std.specs.List.{range_with_len}
use Rattle.std.proofs.lemmas.List.FromFn.{map-range_with_len_more}

pub more_at : {X : Type 0} (f : ℕ → X) (n : ℕ) (xs ys : List X) (y : X) → ys ≡ xs ++ y ∷ [] → xs ≡ map f (range_with_len 0 n) → y ≡ f n
    → ys ≡ map f (range_with_len 0 (n + 1))
more_at {X} f n xs ys y grown old new =
    grown ∙ ap (λ l. l ++ y ∷ []) old ∙ ap (λ v. map f (range_with_len 0 n) ++ v ∷ []) new ∙ sym (map-range_with_len_more f 0 n n (omega arith))

-- two functions that agree below n
pub same_values : {X : Type 0} (f h : ℕ → X) (n : ℕ) → ((i : ℕ) → i < n → f i ≡ h i) → map f (range_with_len 0 n) ≡ map h (range_with_len 0 n)
same_values {X} f h zero same = refl
same_values {X} f h (suc n) same =
    let next : suc n ≡ n + 1 = omega arith in
    let shorter = same_values f h n (λ i below. same i (omega (arith, below))) in
    let longer = map-range_with_len_more f 0 n n (omega arith) in
    let more = more_at h n (map f (range_with_len 0 n)) (map f (range_with_len 0 (n + 1))) (f n) longer shorter (same n (omega arith)) in
    ap (λ k. map f (range_with_len 0 k)) next ∙ more ∙ ap (λ k. map h (range_with_len 0 k)) (sym next)
