-- The least number that passes, one step at a time.
use Rattle.std.proofs.Common.{◌≡◌, ℕ, zero, suc, ◌+◌, ◌<◌, Bool, true, false, Some, if◌then◌else◌, ap, ◌∙◌, arith}
use Rattle.app_words.specs.Words.{least}

pub least_here : (f : ℕ → Bool) (n k : ℕ) → 0 < n → f k ≡ true → least f n k ≡ Some k
least_here f zero k some passes = absurd (omega (arith, some))
least_here f (suc n) k some passes = ap (λ b. if b then Some k else least f n (k + 1)) passes

pub least_behind : (f : ℕ → Bool) (n m k : ℕ) → n ≡ suc m → f k ≡ false → least f n k ≡ least f m (k + 1)
least_behind f n m k is fails = ap (λ i. least f i k) is ∙ ap (λ b. if b then Some k else least f m (k + 1)) fails
