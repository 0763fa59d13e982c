use Rattle.std.proofs.Common.{◌+◌, ◌<◌, ◌≤◌, ℕ}
use Rattle.spec_rows.specs.Slots.{slot_at, row_end}
use Rattle.pg_slots.proofs.order.fault_of_rising.Given as goal

abbrev pub invariant-loop-slot : goal.invariant-loop-slot
invariant-loop-slot l = (m : ℕ) → m + 1 < l.slot → row_end l.page.bytes m ≤ slot_at l.page.bytes (m + 1)
