-- Parts of COUNT that calls of their own carry out.
use Rattle.std.specs.Prelude.{ℕ, List, [], sum_by}
use Rattle.spec_file.specs.CatalogRows.{CatalogRow}
use Rattle.spec_rows.specs.Slots.{slot_count}
use Rattle.spec_script.specs.declared.reply.Reply.{Reply}
use Rattle.spec_script.specs.declared.reply.Reply.TheVariants.{Rows}
use Rattle.spec_words.specs.NetChanges.{FileShape}
use Rattle.spec_words.specs.Views.{Plan}
use Rattle.spec_words.specs.Words.{◌then◌, give, all_of}
use Rattle.spec_words.specs.Tables.{table_pages}
use Rattle.spec_words.specs.Heaps.{heap_page}

-- the rows of these pages of the table
abbrev pub rows_counted : FileShape → CatalogRow → List ℕ → Plan Reply
rows_counted shape row pages = all_of (heap_page shape row) pages then (λ found. give (Rows (sum_by slot_count found) []))

-- the rows of all its pages
abbrev pub table_counted : FileShape → CatalogRow → Plan Reply
table_counted shape row = table_pages shape row then (λ pages. rows_counted shape row pages)
