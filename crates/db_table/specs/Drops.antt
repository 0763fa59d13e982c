-- Parts of DROP that calls of their own carry out.
use Rattle.std.specs.Prelude.{ℕ}
use Rattle.spec_file.specs.declared.data.Resource.TheVariants as resource
use Rattle.spec_file.specs.CatalogRows.{CatalogRow}
use Rattle.spec_file.specs.Image.{page}
use Rattle.spec_script.specs.declared.reply.Reply.{Reply}
use Rattle.spec_script.specs.declared.reply.Reply.TheVariants.{Done}
use Rattle.spec_words.specs.NetChanges.{FileShape}
use Rattle.spec_words.specs.Views.{Plan}
use Rattle.spec_words.specs.Words.{◌then◌, give, sees, take}
use Rattle.spec_alloc.specs.Search.{where_found}
use Rattle.spec_alloc.specs.Objects.{entry_of, entry_emptied, pages_dropped}

-- the entry of the object with this id is emptied
abbrev pub entry_removed : ℕ → Plan Reply
entry_removed id =
    sees (λ view. entry_of (page view.now 9) id) then (λ entry.
    where_found entry entry_emptied then (λ _.
    give Done))

-- a table that was found goes
abbrev pub table_dropped : FileShape → CatalogRow → Plan Reply
table_dropped shape row =
    take (resource.Table (record { 0 = row.id })) then (λ _.
    pages_dropped shape row then (λ _.
    take resource.Catalog then (λ _.
    entry_removed row.id)))
