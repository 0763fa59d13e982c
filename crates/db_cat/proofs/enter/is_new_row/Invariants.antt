use Rattle.std.proofs.Common.{ℕ, ◌<◌, ◌≢◌}
use Rattle.std.specs.Prelude.{string_bytes}
use Rattle.spec_file.specs.Catalog.{IsUsed, entry_at, entry_id, entry_name}
use Rattle.db_cat.proofs.enter.is_new_row.Given as goal

abbrev pub invariant-loop-i : goal.invariant-loop-i
invariant-loop-i l = record {
  id : (k : ℕ) → k < l.i → IsUsed l.page.bytes k → entry_id (entry_at l.page.bytes k) ≢ l.row.id.0;
  name : (k : ℕ) → k < l.i → IsUsed l.page.bytes k → entry_name (entry_at l.page.bytes k) ≢ string_bytes l.row.name;
}
