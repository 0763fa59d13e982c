use Rattle.std.proofs.Common.{◌≡◌, ◌+◌, ◌-◌, ◌*◌, ◌<◌, ◌≤◌, ℕ, take}
use Rattle.spec_rows.specs.Slots.{slot_at}
use Rattle.pg_slots.proofs.puts.open_slot.Given as goal

abbrev pub invariant-loop-k : goal.invariant-loop-k
invariant-loop-k l = record {
  later : (j : ℕ) → l.count ≤ j + l.k → j < l.count → slot_at l.page.bytes (j + 1) ≡ slot_at l.fn.page.bytes j;
  below : (j : ℕ) → j + l.k < l.count → slot_at l.page.bytes j ≡ slot_at l.fn.page.bytes j;
  front : take (8190 - 2 * l.count) l.page.bytes ≡ take (8190 - 2 * l.count) l.fn.page.bytes;
}
