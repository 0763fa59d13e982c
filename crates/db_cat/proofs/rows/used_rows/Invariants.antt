use Rattle.std.proofs.Common.{◌≡◌, map}
use Rattle.spec_file.specs.CatalogRows.{rows_before}
use Rattle.db_cat.specs.Rows.{row_of}
use Rattle.db_cat.proofs.rows.used_rows.Given as goal

abbrev pub invariant-loop-i : goal.invariant-loop-i
invariant-loop-i l = map row_of l.rows.items ≡ rows_before l.page.bytes l.i
