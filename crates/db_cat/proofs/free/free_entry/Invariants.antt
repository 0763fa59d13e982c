use Rattle.std.proofs.Common.{◌≡◌, ℕ, ◌<◌, false}
use Rattle.spec_file.specs.Catalog.{entry_at, is_zeros}
use Rattle.db_cat.proofs.free.free_entry.Given as goal

abbrev pub invariant-loop-i : goal.invariant-loop-i
invariant-loop-i l = (k : ℕ) → k < l.i → is_zeros (entry_at l.page.bytes k) ≡ false
