use Rattle.std.proofs.Common.{◌+◌, ◌<◌, ◌≤◌, ℕ}
use Rattle.spec_rows.specs.Slots.{slot_at}
use Rattle.pg_slots.proofs.order.offsets_rise.Given as goal

abbrev pub invariant-loop-slot : goal.invariant-loop-slot
invariant-loop-slot l = (i : ℕ) → i + 1 < l.slot → slot_at l.page.bytes i ≤ slot_at l.page.bytes (i + 1)
