use Rattle.std.proofs.Common.{◌≡◌, ◌+◌}
use Rattle.spec_rows.specs.Slots.{rows_size}
use Rattle.pg_slots.specs.Puts.{MovesRows}
use Rattle.pg_slots.proofs.pack.move_rows.Given as goal

abbrev pub invariant-loop-slot : goal.invariant-loop-slot
invariant-loop-slot l = record { end : l.at ≡ 96 + rows_size l.source.bytes l.slot; moved : MovesRows l.slot l.source.bytes l.page.bytes }
