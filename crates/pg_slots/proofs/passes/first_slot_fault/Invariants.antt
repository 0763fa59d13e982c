use Rattle.std.proofs.Common.{◌≡◌, ◌<◌, ℕ, None}
use Rattle.spec_rows.specs.PageTest.{slot_fault}
use Rattle.pg_slots.proofs.passes.first_slot_fault.Given as goal

abbrev pub invariant-loop-slot : goal.invariant-loop-slot
invariant-loop-slot l = (i : ℕ) → i < l.slot → slot_fault l.kind l.page.bytes i ≡ None
