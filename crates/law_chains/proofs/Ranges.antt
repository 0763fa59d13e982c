-- What is found among the first values of a function.
use Rattle.std.specs.Prelude.{◌≡◌, ℕ, ◌<◌, Bool, true, map}
use Rattle.std.specs.List.{range_with_len, list_any}
use Rattle.std.proofs.Common.{ap, ◌∙◌, sym, arith}
use Rattle.std.proofs.lemmas.List.FromFn.{length-map-range_with_len, get_or-map-range_with_len}
use Rattle.std.proofs.lemmas.List.Folds.{Any-from_list_any, list_any_at}

pub found_from : (test : ℕ → Bool) (f : ℕ → ℕ) (n : ℕ) → list_any test (map f (range_with_len 0 n)) ≡ true → (k : ℕ) × (k < n) × (test (f k) ≡ true)
found_from test f n any =
    let found = Any-from_list_any test (map f (range_with_len 0 n)) any in
    let below : found.0 < n = omega (arith, found.2, length-map-range_with_len f 0 n) in
    let is : f found.0 ≡ found.1 = sym (get_or-map-range_with_len f 0 n found.0 found.0 found.1 below (omega arith)) ∙ found.3 in
    (found.0, below, ap test is ∙ found.4)

pub found_in : (test : ℕ → Bool) (f : ℕ → ℕ) (n k : ℕ) → k < n → test (f k) ≡ true → list_any test (map f (range_with_len 0 n)) ≡ true
found_in test f n k below passes =
    let at = get_or-map-range_with_len f 0 n k k 0 below (omega arith) in
    list_any_at test (map f (range_with_len 0 n)) k 0 (omega (arith, below, length-map-range_with_len f 0 n)) (ap test at ∙ passes)
