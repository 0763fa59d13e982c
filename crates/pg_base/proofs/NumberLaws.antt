-- What stays where a number is put.
use Rattle.std.specs.Prelude.{◌≡◌, ℕ, ◌+◌, ◌-◌, ◌<◌, ◌≤◌, List, take, drop, slice_index}
use Rattle.std.proofs.Common.{arith, ap, sym, ◌∙◌}
use Rattle.std.proofs.lemmas.List.{take-take, drop-drop, drop-take, get_or-take}
use Rattle.byteorder.specs.Endian.{little_number}
use Rattle.byteorder.specs.Numbers.{little_from-take}
use Rattle.spec_file.specs.Image.{number_at}
use Rattle.pg_base.specs.Numbers.{PutsNumber}

-- a number that ends before a place is that of the bytes before the place
pub number_at-take : (n at k : ℕ) (bytes : List ℕ) → at + n ≤ k → number_at n at (take k bytes) ≡ number_at n at bytes
unfolding number_at
number_at-take n at k bytes within =
    let there : at + (k - at) ≡ k = omega arith in
    ap (λ (i : ℕ). little_number n (drop at (take i bytes))) (sym there) ∙ ap (little_number n) (drop-take at (k - at) bytes)
    ∙ little_from-take 0 n (k - at) (drop at bytes) (omega arith)

-- the same bytes before a place are the same before an earlier one
pub same_front : (k n : ℕ) (xs ys : List ℕ) → take n xs ≡ take n ys → k ≤ n → take k xs ≡ take k ys
same_front k n xs ys same within =
    sym (take-take k n xs within) ∙ ap (take k) same ∙ take-take k n ys within

-- the same bytes behind a place are the same behind a later one
pub same_back : (k n : ℕ) (xs ys : List ℕ) → drop n xs ≡ drop n ys → n ≤ k → drop k xs ≡ drop k ys
same_back k n xs ys same within =
    let there : n + (k - n) ≡ k = omega arith in
    ap (λ (i : ℕ). drop i xs) (sym there) ∙ sym (drop-drop (k - n) n xs) ∙ ap (drop (k - n)) same
    ∙ drop-drop (k - n) n ys ∙ ap (λ (i : ℕ). drop i ys) there

-- a number is told by the bytes before a place behind it
pub same_number : (n at k : ℕ) (xs ys : List ℕ) → take k xs ≡ take k ys → at + n ≤ k → number_at n at xs ≡ number_at n at ys
same_number n at k xs ys same within =
    sym (number_at-take n at k xs within) ∙ ap (number_at n at) same ∙ number_at-take n at k ys within

-- and by the bytes from a place before it
pub same_number_behind : (n at k : ℕ) (xs ys : List ℕ) → drop k xs ≡ drop k ys → k ≤ at → number_at n at xs ≡ number_at n at ys
unfolding number_at
same_number_behind n at k xs ys same within = ap (little_number n) (same_back at k xs ys same within)

-- so is a byte
pub same_byte : (i k : ℕ) (xs ys : List ℕ) → take k xs ≡ take k ys → i < k → slice_index xs i ≡ slice_index ys i
same_byte i k xs ys same within =
    sym (get_or-take k xs i 0 within) ∙ ap (λ (l : List ℕ). slice_index l i) same ∙ get_or-take k ys i 0 within

-- where a number is put, the bytes before it and behind it stay, and the numbers before it
pub front_stays : (k n at value : ℕ) (xs ys : List ℕ) → PutsNumber n at value xs ys → k ≤ at → take k ys ≡ take k xs
front_stays k n at value xs ys puts within = same_front k at ys xs puts.front within

pub back_stays : (k n at value : ℕ) (xs ys : List ℕ) → PutsNumber n at value xs ys → at + n ≤ k → drop k ys ≡ drop k xs
back_stays k n at value xs ys puts within = same_back k (at + n) ys xs puts.back within

pub number_stays : (m from n at value : ℕ) (xs ys : List ℕ) → PutsNumber n at value xs ys → from + m ≤ at
    → number_at m from ys ≡ number_at m from xs
number_stays m from n at value xs ys puts within = same_number m from at ys xs puts.front within
