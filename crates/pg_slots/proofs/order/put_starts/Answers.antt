use Rattle.std.proofs.Common.{arith}
use Rattle.std.proofs.lemmas.List.FromFn.{fill_by_all}
use Rattle.pg_slots.specs.Starts.{start_of, no_start}
use Rattle.pg_slots.proofs.order.put_starts.Goals as goal

pub returns : goal.returns
returns c =
    fill_by_all (start_of c.args.page.now.bytes) c.loop-k.starts _ no_start (omega arith) (λ k within. c.loop-k.invariant k (omega arith))
