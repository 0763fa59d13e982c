-- Tests of the code, in words.
use Rattle.std.proofs.Common.{◌≢◌, ◌↔◌, ◌==◌, ℕ, not, IsTrue, arith}

pub differ_is : (a b : ℕ) → IsTrue (not (a == b)) ↔ (a ≢ b)
differ_is a b = grind arith
