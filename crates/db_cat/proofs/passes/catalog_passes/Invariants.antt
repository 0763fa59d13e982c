use Rattle.std.proofs.Common.{ℕ, ◌<◌}
use Rattle.db_cat.specs.Entries.{IsGoodEntry}
use Rattle.db_cat.proofs.passes.catalog_passes.Given as goal

abbrev pub invariant-loop-i : goal.invariant-loop-i
invariant-loop-i l = (k : ℕ) → k < l.i → IsGoodEntry l.page.bytes k
