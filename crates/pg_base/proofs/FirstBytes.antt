-- What the first three bytes are once they are written one by one.
use Rattle.std.proofs.Common.{◌≡◌, ℕ, ◌≤◌, List, length, set, drop, slice_index, arith, ◌∙◌}
use Rattle.std.proofs.lemmas.List.{get_or-set_same, get_or-set_other, length-set, drop-set-lt}

abbrev pub with_first : List ℕ → ℕ → ℕ → ℕ → List ℕ
with_first bytes a b c = set (set (set bytes 0 a) 1 b) 2 c

pub first_byte : (bytes : List ℕ) (a b c : ℕ) → 3 ≤ length bytes → slice_index (with_first bytes a b c) 0 ≡ a
first_byte bytes a b c enough = grind (arith, get_or-set_same, get_or-set_other, length-set)

pub second_byte : (bytes : List ℕ) (a b c : ℕ) → 3 ≤ length bytes → slice_index (with_first bytes a b c) 1 ≡ b
second_byte bytes a b c enough = grind (arith, get_or-set_same, get_or-set_other, length-set)

pub third_byte : (bytes : List ℕ) (a b c : ℕ) → 3 ≤ length bytes → slice_index (with_first bytes a b c) 2 ≡ c
third_byte bytes a b c enough = grind (arith, get_or-set_same, get_or-set_other, length-set)

pub fourth_byte : (bytes : List ℕ) (a b c : ℕ) → slice_index (with_first bytes a b c) 3 ≡ slice_index bytes 3
fourth_byte bytes a b c = grind (arith, get_or-set_same, get_or-set_other, length-set)

pub bytes_behind : (n : ℕ) (bytes : List ℕ) (a b c : ℕ) → 3 ≤ n → drop n (with_first bytes a b c) ≡ drop n bytes
bytes_behind n bytes a b c enough =
    drop-set-lt n (set (set bytes 0 a) 1 b) 2 c (omega arith) ∙ drop-set-lt n (set bytes 0 a) 1 b (omega arith)
    ∙ drop-set-lt n bytes 0 a (omega arith)
