-- Parts of SELECT that calls of their own carry out.
use Rattle.std.specs.Prelude.{ℕ, List, flat_map}
use Rattle.spec_file.specs.CatalogRows.{CatalogRow}
use Rattle.spec_script.specs.declared.reply.Reply.{Reply}
use Rattle.spec_plan.specs.Rows.{payloads_of}
use Rattle.spec_words.specs.NetChanges.{FileShape}
use Rattle.spec_words.specs.Views.{Plan}
use Rattle.spec_words.specs.Words.{◌then◌, give, all_of}
use Rattle.spec_words.specs.Orders.{in_rising_order}
use Rattle.spec_words.specs.Tables.{table_pages}
use Rattle.spec_words.specs.Heaps.{heap_page, rows_found}

-- the payloads of the rows of this key on these pages of the table, in rising order
abbrev pub rows_selected : FileShape → CatalogRow → ℕ → List ℕ → Plan Reply
rows_selected shape row key pages =
    all_of (heap_page shape row) pages then (λ found. give (rows_found (in_rising_order (flat_map (payloads_of key) found))))

-- those on all its pages
abbrev pub table_selected : FileShape → CatalogRow → ℕ → Plan Reply
table_selected shape row key = table_pages shape row then (λ pages. rows_selected shape row key pages)
