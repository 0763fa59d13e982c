-- Parts of INSERT that calls of their own carry out.
use Rattle.std.specs.Prelude.{ℕ, List, [], length}
use Rattle.spec_file.specs.declared.data.Resource.TheVariants as resource
use Rattle.spec_file.specs.CatalogRows.{CatalogRow}
use Rattle.spec_script.specs.declared.reply.Reply.{Reply}
use Rattle.spec_script.specs.declared.reply.Reply.TheVariants.{Rows}
use Rattle.spec_plan.specs.Refusals.{no_room}
use Rattle.spec_words.specs.NetChanges.{FileShape}
use Rattle.spec_words.specs.Views.{Plan}
use Rattle.spec_words.specs.Words.{◌then◌, give, refuse, take, found_or, first_of}
use Rattle.spec_words.specs.Tables.{table_pages}
use Rattle.spec_words.specs.Heaps.{room_on, row_put}
use Rattle.db_locks.specs.Does.{Stop, WasRefused}
use Rattle.db_alloc.specs.Results.{find_stop}
use Rattle.db_heap.specs.declared.insert.InsertStop.{InsertStop}
use Rattle.db_heap.specs.declared.insert.InsertStop.TheVariants.{Find, NoRoom}

-- why no row is inserted into the table of this name
abbrev pub insert_stop : List ℕ → InsertStop → Stop
insert_stop name (Find e) = find_stop name e
insert_stop name NoRoom = WasRefused no_room

-- a row goes on the first of these pages with room: 1105
abbrev pub row_placed : FileShape → CatalogRow → List ℕ → List ℕ → Plan Reply
row_placed shape row bytes pages =
    first_of (room_on shape row (length bytes)) pages then (λ found.
    found_or found (refuse no_room) then (λ p.
    row_put shape p bytes then (λ _.
    give (Rows 1 []))))

-- a row goes into the table, which is taken
abbrev pub row_inserted : FileShape → CatalogRow → List ℕ → Plan Reply
row_inserted shape row bytes =
    table_pages shape row then (λ pages.
    take (resource.Table (record { 0 = row.id })) then (λ _.
    row_placed shape row bytes pages))
