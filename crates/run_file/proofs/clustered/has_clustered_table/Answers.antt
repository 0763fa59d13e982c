use Rattle.std.proofs.Common.{map, sym, ◌∙◌}
use Rattle.db_cat.specs.Rows.{row_of}
use Rattle.run_file.proofs.CatalogLaws.{no_boot, no_catalog, by_rows}
use Rattle.run_file.proofs.clustered.has_clustered_table.Goals as goal

pub returns-then-not-is_page_of : goal.returns-then-not-is_page_of
returns-then-not-is_page_of c = sym (no_boot c.args.boot.now.bytes (sym c.is_page_of.ensures ∙ c.if-not-is_page_of.true))

pub returns-in-Ok : goal.returns-in-Ok
returns-in-Ok c =
    (rw c.deref.ensures.value at c.any_clustered.ensures)
    ∙ by_rows c.args.boot.now.bytes (map row_of c.in-Ok.rows.items) c.row_laws.ensures.catalog (sym c.is_page_of.ensures ∙ c.if-not-is_page_of.false)
    c.in-Ok.ensures.bad c.in-Ok.ensures.rows

pub returns-in-Err-Bad : goal.returns-in-Err-Bad
returns-in-Err-Bad c = sym (no_catalog c.args.boot.now.bytes c.row_laws.ensures.catalog (rw c.in-Err-Bad.field-0-is at c.in-Err-Bad.ensures.bad))
