use Rattle.std.proofs.Common.{◌≡◌}
use Rattle.std.specs.Prelude.{max}
use Rattle.ck_merge.specs.Held.{roots_in, roots_of, count_of}
use Rattle.rows_facts.proofs.merge_tests.from_front.Given as goal

abbrev pub invariant-loop-fact : goal.invariant-loop-fact
invariant-loop-fact l = (roots_in l.parts ≡ roots_of l.map.objects.items) × (count_of l.parts ≡ max l.count 1)
