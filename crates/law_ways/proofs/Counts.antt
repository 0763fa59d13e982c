-- The pages of a tree, counted.
use Rattle.std.proofs.Common.{◌≡◌, ℕ, zero, suc, List, Contains, refl, ap, arith}
use Rattle.spec_levels.specs.Levels.{Tree, tree_pages}
use Rattle.law_ways.proofs.Bridge.{contains_from, pages_are_all}
use Rattle.law_ways.proofs.Fits.{count, all_pages}

pub tree_counts : (tree : Tree) (p : ℕ) → count p (all_pages tree.above tree.leaves) ≡ count p (tree_pages tree)
tree_counts tree p = ap (count p) (pages_are_all tree.above tree.leaves)

pub none_zero : (xs : List ℕ) → (Contains xs 0 → ⊥) → count 0 xs ≡ 0
none_zero xs none = by_count (count 0 xs) refl
  where
    by_count : (n : ℕ) → count 0 xs ≡ n → n ≡ 0
    by_count zero e = refl
    by_count (suc n) e = absurd (none (contains_from 0 xs (omega (arith, e))))

pub no_count : (xs : List ℕ) (p : ℕ) → (Contains xs p → ⊥) → count p xs ≡ 0
no_count xs p none = by_count (count p xs) refl
  where
    by_count : (n : ℕ) → count p xs ≡ n → n ≡ 0
    by_count zero e = refl
    by_count (suc n) e = absurd (none (contains_from p xs (omega (arith, e))))
