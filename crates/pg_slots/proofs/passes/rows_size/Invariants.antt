use Rattle.std.proofs.Common.{◌≡◌, ◌*◌, ◌≤◌}
use Rattle.spec_rows.specs.Slots.{rows_size}
use Rattle.pg_slots.proofs.passes.rows_size.Given as goal

abbrev pub invariant-loop-slot : goal.invariant-loop-slot
invariant-loop-slot l = record { value : l.total ≡ rows_size l.page.bytes l.slot; most : l.total ≤ 8192 * l.slot }
