-- Lines to which others are added, one after another.
use Rattle.std.proofs.Common.{◌≡◌, ℕ, ◌<◌, ◌≤◌, List, length, get_or, arith}
use Rattle.spec_check.specs.declared.report.TableLine.{TableLine}
use Rattle.ck_scan.specs.Counted.{IsSumOf, AreSums}

-- the first n add the counts of two, and the rest stay
pub record AreSumsBelow (n : ℕ) (one two now : List TableLine) : Type 0 where
  pub long : length now ≡ length one
  pub first : (i : ℕ) (d : TableLine) → i < n → i < length one → IsSumOf (get_or one i d) (get_or two i d) (get_or now i d)
  pub rest : (i : ℕ) (d : TableLine) → n ≤ i → get_or now i d ≡ get_or one i d

pub sums_all : (n : ℕ) (one two now : List TableLine) → length two ≡ length one → length one ≤ n → AreSumsBelow n one two now → AreSums one two now
sums_all n one two now same all h = record {
  long = h.long;
  same = same;
  each = λ i d low. h.first i d (omega (arith, low, all)) low;
}
