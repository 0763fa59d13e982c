use Rattle.std.proofs.Common.{◌≡◌, ◌<◌, ℕ, get_or}
use Rattle.pg_slots.specs.Starts.{start_of, no_start}
use Rattle.pg_slots.proofs.order.put_starts.Given as goal

abbrev pub invariant-loop-k : goal.invariant-loop-k
invariant-loop-k l = (k : ℕ) → k < l.k → get_or l.starts k no_start ≡ start_of l.page.bytes k
