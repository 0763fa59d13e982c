use Rattle.std.proofs.Common.{◌∙◌, arith}
use Rattle.spec_file.specs.CatalogBytes.{entry_bytes}
use Rattle.spec_file.proofs.EntryLaws.{entry_size}
use Rattle.db_cat.specs.Rows.{row_of}
use Rattle.db_table.proofs.EntryPlaces.{entry_placed}
use Rattle.db_table.proofs.entries.fill.Goals as goal

pub returns : goal.returns
returns c =
    let row = row_of c.args.row.now in
    let short = c.requires.name in
    let lt = c.requires.within in
    let long = c.is_whole.ensures.long in
    c.put_row.ensures ∙ entry_placed c.args.i (entry_bytes row) c.args.page.now.bytes (entry_size row (omega (arith, short))) (omega (arith, lt, long))
