use Rattle.law_rows.proofs.Catalog.{catalog_passes}
use Rattle.law_rows.proofs.Inserted.{row_inserted}
use Rattle.law_rows.proofs.Passes.{page_passes}
use Rattle.law_rows.proofs.row_laws.Goals as goal

pub returns : goal.returns
returns c = record { catalog = catalog_passes; passes = page_passes; inserted = row_inserted }
