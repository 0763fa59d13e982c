use Rattle.pg_slots.specs.Starts.{slot_in}
use Rattle.pg_slots.proofs.Steps.{AreApartBelow}
use Rattle.pg_slots.proofs.order.fault_in_order.Given as goal

abbrev pub invariant-loop-k : goal.invariant-loop-k
invariant-loop-k l = AreApartBelow l.page.bytes (slot_in l.starts) l.k
