use Rattle.std.proofs.Common.{◌≡◌, ℕ, ◌<◌, ◌≤◌, map, true, ◌==◌}
use Rattle.std.specs.List.{list_any}
use Rattle.spec_file.specs.CatalogRows.{CatalogRow}
use Rattle.db_cat.specs.Rows.{row_of}
use Rattle.db_cat.proofs.free.free_id.Given as goal

abbrev pub invariant-loop-id : goal.invariant-loop-id
invariant-loop-id l = (k : ℕ) → 1 ≤ k → k < l.id → list_any (λ (row : CatalogRow). row.id == k) (map row_of l.rows) ≡ true
