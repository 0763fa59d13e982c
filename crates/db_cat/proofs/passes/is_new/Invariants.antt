use Rattle.std.proofs.Common.{ℕ, ◌<◌, ◌≢◌}
use Rattle.spec_file.specs.Catalog.{IsUsed, entry_at, entry_id, entry_name}
use Rattle.db_cat.proofs.passes.is_new.Given as goal

abbrev pub invariant-loop-j : goal.invariant-loop-j
invariant-loop-j l = record {
  id : (k : ℕ) → k < l.j → IsUsed l.page.bytes k → entry_id (entry_at l.page.bytes l.i) ≢ entry_id (entry_at l.page.bytes k);
  name : (k : ℕ) → k < l.j → IsUsed l.page.bytes k → entry_name (entry_at l.page.bytes l.i) ≢ entry_name (entry_at l.page.bytes k);
}
