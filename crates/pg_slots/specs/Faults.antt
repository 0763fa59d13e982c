-- The part of the page test that asks of the rows, once the header has passed.
use Rattle.std.specs.Prelude.{◌≡◌, ℕ, false, IsTrue, List}
use Rattle.spec_file.specs.declared.data.Kind.{Kind}
use Rattle.spec_rows.specs.declared.fault.SlotFault.{SlotFault}
use Rattle.spec_rows.specs.PageTest.{fault, has_free_count, IsFirstSlotFault, IsFirstOverlap, SlotsPass, OrderPasses}

-- no test of rows fails
pub record RowsPass (kind : Kind) (bytes : List ℕ) : Type 0 where
  pub slots : SlotsPass kind bytes
  pub order : OrderPasses bytes
  pub free : IsTrue (has_free_count bytes)

-- the fault is that of the first test of rows that fails
pub data IsRowsFault (kind : Kind) (bytes : List ℕ) (x : SlotFault) : Type 0 where
  Slot : IsFirstSlotFault kind bytes x → IsRowsFault kind bytes x
  Order : SlotsPass kind bytes → IsFirstOverlap bytes x → IsRowsFault kind bytes x
  Free : SlotsPass kind bytes → OrderPasses bytes → has_free_count bytes ≡ false → x ≡ fault 8939 0 7 → IsRowsFault kind bytes x
