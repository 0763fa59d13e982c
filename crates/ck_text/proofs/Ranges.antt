-- Lines of the numbers of a range.
use Rattle.std.specs.Prelude.{◌≡◌, ℕ, ◌<◌, List, length, get_or}
use Rattle.std.specs.List.{range_with_len}
use Rattle.std.proofs.Common.{ap, sym, ◌∙◌, arith}
use Rattle.std.proofs.lemmas.List.FromFn.{get_or-range_with_len, length-range_with_len}

pub in_range : (n i : ℕ) → i < n → i < length (range_with_len 0 n)
in_range n i h = omega (arith, h, length-range_with_len 0 n)

pub at_range : (f : ℕ → List ℕ) (n i : ℕ) → i < n → f i ≡ f (get_or (range_with_len 0 n) i 0)
at_range f n i h = ap f (sym (get_or-range_with_len 0 n i 0 h ∙ omega arith))
