-- CREATE HEAP and DROP, in the words of plans (this project's own).
use Rattle.std.specs.Prelude.{ℕ, ◌+◌, ◌*◌, is_some, if◌then◌else◌, List}
use Rattle.spec_file.specs.declared.data.Kind.TheVariants.{Heap}
use Rattle.spec_file.specs.declared.data.Resource.TheVariants as resource
use Rattle.spec_file.specs.Image.{page}
use Rattle.spec_file.specs.CatalogRows.{CatalogRow, rows_of}
use Rattle.spec_file.specs.CatalogBytes.{entry_bytes}
use Rattle.spec_script.specs.declared.reply.Reply.{Reply}
use Rattle.spec_script.specs.declared.reply.Reply.TheVariants.{Done}
use Rattle.spec_plan.specs.Refusals.{same_name, too_many_tables}
use Rattle.spec_plan.specs.Reading.{is_catalog, named_among}
use Rattle.spec_words.specs.NetChanges.{FileShape}
use Rattle.spec_words.specs.Views.{Plan}
use Rattle.spec_words.specs.Words.{◌then◌, give, refuse, sees, where_good, look, take, put_catalog, found_or}
use Rattle.spec_words.specs.Tables.{table_of}
use Rattle.spec_alloc.specs.Search.{where_found}
use Rattle.spec_alloc.specs.Objects.{free_id, free_entry, entry_of, entry_emptied, new_chain, pages_dropped}

-- 2714 where an object has this name
abbrev pub unless_named : List ℕ → List ℕ → Plan (Unit {0})
unless_named boot name = if is_some (named_among (rows_of boot) name) then refuse (same_name name) else give tt

-- a heap without pages, whose chain has this page alone
abbrev pub new_heap : ℕ → List ℕ → ℕ → CatalogRow
new_heap id name q = record { id = id; kind = Heap; name = name; first_iam = q; root = 0 }

-- entry i is this object's
abbrev pub entry_put : ℕ → CatalogRow → Plan (Unit {0})
entry_put i row = put_catalog (96 + 40 * i) (entry_bytes row)

-- CREATE HEAP gives the object the smallest id and the lowest entry that are free, 60002 where there is none, takes the
-- table, and allocates the page of its chain. Its entry is put last, with which the catalog is taken
abbrev pub create_plan : FileShape → List ℕ → Plan Reply
create_plan shape name =
    look resource.Catalog 9 then (λ boot.
    where_good (is_catalog boot) 9 then (λ _.
    unless_named boot name then (λ _.
    found_or (free_id boot) (refuse too_many_tables) then (λ id.
    found_or (free_entry boot) (refuse too_many_tables) then (λ i.
    take (resource.Table (record { 0 = id })) then (λ _.
    new_chain shape id then (λ q.
    entry_put i (new_heap id name q) then (λ _.
    give Done))))))))

-- DROP takes the table, and gives back all that the object owns. Then it takes the catalog, and the entry is emptied
abbrev pub drop_plan : FileShape → List ℕ → Plan Reply
drop_plan shape name =
    table_of name then (λ row.
    take (resource.Table (record { 0 = row.id })) then (λ _.
    pages_dropped shape row then (λ _.
    take resource.Catalog then (λ _.
    sees (λ view. entry_of (page view.now 9) row.id) then (λ entry.
    where_found entry entry_emptied then (λ _.
    give Done))))))
