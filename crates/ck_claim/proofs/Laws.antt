-- What follows where a list has each number below n once. `IsPermutation`'s lemmas of std say the rest.
use Rattle.std.specs.Prelude.{◌≡◌, ℕ, ◌<◌, List, length, Contains, sum_by}
use Rattle.std.proofs.Common.{arith, ◌∙◌}
use Rattle.std.proofs.lemmas.List.FromFn.{length-range_with_len, get_or-range_with_len}
use Rattle.std.proofs.lemmas.List.Sorted.{length_permutation, Contains-permutation, IsPermutation-sym, sum_by-IsPermutation}
use Rattle.ck_claim.specs.Shown.{numbers_below, IsEachBelow}

-- there are n of them
pub length-each_below : (n : ℕ) (xs : List ℕ) → IsEachBelow n xs → length xs ≡ n
length-each_below n xs each = length_permutation (numbers_below n) xs each ∙ length-range_with_len 0 n

-- each number below n stands in the list
pub Contains-each_below : (n : ℕ) (xs : List ℕ) (x : ℕ) → IsEachBelow n xs → x < n → Contains xs x
Contains-each_below n xs x each below =
    let there : Contains (numbers_below n) x = (x, (let long = length-range_with_len 0 n in omega arith), get_or-range_with_len 0 n x x below ∙ omega arith) in
    Contains-permutation (numbers_below n) xs x each there

-- and no other does
pub each_below-Contains : (n : ℕ) (xs : List ℕ) (x : ℕ) → IsEachBelow n xs → Contains xs x → x < n
each_below-Contains n xs x each among =
    let there = Contains-permutation xs (numbers_below n) x (IsPermutation-sym (numbers_below n) xs each) among in
    let long = length-range_with_len 0 n in
    let is = get_or-range_with_len 0 n there.0 x (omega (arith, long, there.1)) in
    omega (arith, long, there.1, is, there.2)

-- what is added up over them is what is added up over the numbers below n
pub sum_by-each_below : (f : ℕ → ℕ) (n : ℕ) (xs : List ℕ) → IsEachBelow n xs → sum_by f xs ≡ sum_by f (numbers_below n)
sum_by-each_below f n xs each = sum_by-IsPermutation f (numbers_below n) xs each
