-- Calls of a device, one after another, and its count of faults.
use Rattle.std.proofs.Common.{ℕ, ◌≤◌, arith}
use Rattle.pg_base.specs.Faults.{Rose, Counts}

-- a count that has risen since some call has risen since any call before it
rose_before : (a b c : ℕ) → a ≤ b → Rose b c → Rose a c
rose_before a b c h r = omega arith

-- a call behind others that count too
pub counts_then : (P Q : Type 0) (a b c : ℕ) → Counts P a b → Counts Q b c → Counts Q a c
counts_then P Q a b c p q = record {
  cause = λ blames. rose_before a b c p.later (q.cause blames);
  later = omega (arith, p.later, q.later);
}

-- the same blame, said otherwise
pub counts_as : (P Q : Type 0) (a b : ℕ) → (Q → P) → Counts P a b → Counts Q a b
counts_as P Q a b so p = record { cause = λ blames. p.cause (so blames); later = p.later }

-- nothing is done, and nothing blamed
pub counts_none : (P : Type 0) (a : ℕ) → (P → ⊥) → Counts P a a
counts_none P a none = record { cause = λ blames. absurd (none blames); later = omega arith }
