-- Parts that are put one behind another.
use Rattle.std.proofs.Common.{◌≡◌, ℕ, ◌+◌, ◌≤◌, List, ◌++◌, length, take, drop, ap, sym, ◌∙◌}
use Rattle.pg_base.proofs.NumberLaws.{same_back}
use Rattle.pg_row.specs.Meaning.{PutsBytes}

pub follows : (at n : ℕ) (part front xs ys : List ℕ) → PutsBytes at part xs ys → take at xs ≡ front → at + length part ≡ n
    → take n ys ≡ front ++ part
follows at n part front xs ys puts before there =
    ap (λ (i : ℕ). take i ys) (sym there) ∙ puts.front ∙ ap (λ (l : List ℕ). l ++ part) before

pub stays : (at n : ℕ) (part xs ys : List ℕ) → PutsBytes at part xs ys → at + length part ≤ n → drop n ys ≡ drop n xs
stays at n part xs ys puts within = same_back n (at + length part) ys xs puts.back within
