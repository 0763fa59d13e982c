use Rattle.std.proofs.Common.{◌≡◌, ℕ, ◌<◌, false}
use Rattle.spec_file.specs.Catalog.{entry_at}
use Rattle.db_cat.specs.Changes.{is_of}
use Rattle.db_cat.proofs.free.entry_of.Given as goal

abbrev pub invariant-loop-i : goal.invariant-loop-i
invariant-loop-i l = (k : ℕ) → k < l.i → is_of l.id.0 (entry_at l.page.bytes k) ≡ false
