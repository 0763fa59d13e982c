use Rattle.std.proofs.Common.{◌≡◌, ℕ, ◌<◌, ◌≤◌, false}
use Rattle.spec_file.specs.Image.{bit}
use Rattle.pg_maps.proofs.bits.first_set_from.Given as goal

abbrev pub invariant-loop-k : goal.invariant-loop-k
invariant-loop-k l = (j : ℕ) → l.n ≤ j → j < l.k → bit l.page.bytes j ≡ false
