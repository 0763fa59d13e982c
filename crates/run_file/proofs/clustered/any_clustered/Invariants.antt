use Rattle.std.proofs.Common.{◌≡◌, map, drop}
use Rattle.std.specs.List.{list_any}
use Rattle.spec_file.specs.Kinds.{is_clustered}
use Rattle.spec_file.specs.CatalogRows.{CatalogRow}
use Rattle.db_cat.specs.Rows.{row_of}
use Rattle.run_file.proofs.clustered.any_clustered.Given as goal

abbrev pub invariant-loop-row : goal.invariant-loop-row
invariant-loop-row l =
    list_any (λ (row : CatalogRow). is_clustered row.kind) (map row_of l.rows) ≡ list_any (λ (row : CatalogRow). is_clustered row.kind) (map row_of (drop l.row-index l.rows))
