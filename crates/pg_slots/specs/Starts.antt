-- Slots that are sorted by where their rows begin.
use Rattle.std.specs.Prelude.{ℕ, List, slice_index_or}
use Rattle.spec_rows.specs.Slots.{slot_at}
use Rattle.spec_rows.specs.Order.{IsInOrder}
use Rattle.pg_slots.specs.declared.order.RowStart.{RowStart}

-- where the row of slot i begins
abbrev pub start_of : List ℕ → ℕ → RowStart
start_of bytes i = record { offset = slot_at bytes i; slot = i }

-- what stands where nothing is filled in
abbrev pub no_start : RowStart
no_start = record { offset = 0; slot = 0 }

-- the slot at place k
abbrev pub slot_in : List RowStart → ℕ → ℕ
slot_in starts k = (slice_index_or starts k no_start).slot

-- the starts stand in the order of offset, then slot
abbrev pub AreInOrder : List ℕ → List RowStart → Type 0
AreInOrder bytes starts = IsInOrder bytes (slot_in starts)
