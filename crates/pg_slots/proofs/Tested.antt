-- The page test from its two parts: the header, and the rows.
use Rattle.std.proofs.Common.{ℕ, List, Option, Some, None}
use Rattle.std.specs.Prelude.{MatchOption}
use Rattle.spec_file.specs.declared.data.Kind.{Kind}
use Rattle.spec_rows.specs.declared.fault.SlotFault.{SlotFault}
use Rattle.spec_rows.specs.PageTest as spec
use Rattle.spec_rows.proofs.TestLaws.{passes_from}
use Rattle.pg_slots.specs.Faults.{RowsPass, IsRowsFault, Slot, Order, Free}

fault_of_rows : (p o : ℕ) (kind : Kind) (bytes : List ℕ) (x : SlotFault) → spec.HeaderPasses p o kind bytes → IsRowsFault kind bytes x → spec.IsFirstFault p o kind bytes x
fault_of_rows p o kind bytes x header (Slot first) = spec.Slot header first
fault_of_rows p o kind bytes x header (Order slots first) = spec.Order header slots first
fault_of_rows p o kind bytes x header (Free slots order wrong is) = spec.Free header slots order wrong is

pub tested_rows : (p o : ℕ) (kind : Kind) (bytes : List ℕ) (found : Option SlotFault) → spec.HeaderPasses p o kind bytes
    → MatchOption found (RowsPass kind bytes) (IsRowsFault kind bytes) → MatchOption found (spec.PassesTest p o kind bytes) (spec.IsFirstFault p o kind bytes)
tested_rows p o kind bytes None header pass = passes_from p o kind bytes header pass.slots pass.order pass.free
tested_rows p o kind bytes (Some x) header found = fault_of_rows p o kind bytes x header found
