use Rattle.std.proofs.Common.{arith}
use Rattle.pg_slots.proofs.Rising.{rising_in_order}
use Rattle.pg_slots.proofs.order.offsets_rise.Goals as goal

pub returns : goal.returns
returns c = λ yes.
    rising_in_order c.args.page.now.bytes (omega arith) (λ i less. c.loop-slot.invariant i (omega arith))
