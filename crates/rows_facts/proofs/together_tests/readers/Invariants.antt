use Rattle.std.proofs.Common.{◌≡◌, vec_len}
use Rattle.rows_facts.proofs.together_tests.readers.Given as goal

abbrev pub invariant-loop-number : goal.invariant-loop-number
invariant-loop-number l = vec_len l.all ≡ l.number
