-- Lists of one entry again and again.
use Rattle.std.proofs.Common.{◌≤◌, ℕ, zero, suc, ◌∷◌, refl, ap, arith}
use Rattle.std.specs.Prelude.{replicate}
use mathlib.Core.List.{IsPrefix}

-- fewer of them begin more of them
pub replicate-prefix : {A : Type 0} (x : A) (m n : ℕ) → m ≤ n → IsPrefix (replicate m x) (replicate n x)
replicate-prefix x zero n le = (replicate n x, refl)
replicate-prefix x (suc m) zero le = absurd (omega arith)
replicate-prefix x (suc m) (suc n) le = let p = replicate-prefix x m n (omega arith) in (p.0, ap (λ l. x ∷ l) p.1)
