use Rattle.std.proofs.Common.{◌≡◌, ◌+◌, ◌-◌, ◌*◌, ◌<◌, ◌≤◌, ℕ, take}
use Rattle.spec_rows.specs.Slots.{slot_at}
use Rattle.pg_slots.proofs.puts.close_slot.Given as goal

abbrev pub invariant-loop-slot : goal.invariant-loop-slot
invariant-loop-slot l = record {
  earlier : (j : ℕ) → j < l.i → slot_at l.page.bytes j ≡ slot_at l.fn.page.bytes j;
  later : (j : ℕ) → l.i ≤ j → j + 1 < l.slot → slot_at l.page.bytes j ≡ slot_at l.fn.page.bytes (j + 1);
  above : (j : ℕ) → l.slot ≤ j → j < l.count → slot_at l.page.bytes j ≡ slot_at l.fn.page.bytes j;
  front : take (8192 - 2 * l.count) l.page.bytes ≡ take (8192 - 2 * l.count) l.fn.page.bytes;
}
