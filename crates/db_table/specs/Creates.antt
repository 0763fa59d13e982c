-- Parts of CREATE that calls of their own carry out.
use Rattle.std.specs.Prelude.{ℕ, List}
use Rattle.spec_file.specs.declared.data.Resource.TheVariants as resource
use Rattle.spec_script.specs.declared.reply.Reply.{Reply}
use Rattle.spec_script.specs.declared.reply.Reply.TheVariants.{Done}
use Rattle.spec_plan.specs.Refusals.{same_name, too_many_tables}
use Rattle.spec_words.specs.NetChanges.{FileShape}
use Rattle.spec_words.specs.Views.{Plan}
use Rattle.spec_words.specs.Words.{◌then◌, give, refuse, take, found_or}
use Rattle.spec_alloc.specs.Objects.{free_id, free_entry, new_chain}
use Rattle.spec_statements.specs.Objects.{unless_named, new_heap, entry_put}
use Rattle.db_locks.specs.Does.{Stop, WasRefused}
use Rattle.db_alloc.specs.Results.{alloc_stop}
use Rattle.db_alloc.specs.Tables.{catalog_rows}
use Rattle.db_table.specs.declared.place.CreateStop.{CreateStop}
use Rattle.db_table.specs.declared.place.CreateStop.TheVariants.{Alloc, SameName, TooMany}
use Rattle.db_table.specs.declared.place.Place.{Place}

-- why no table of this name is created
abbrev pub create_stop : List ℕ → CreateStop → Stop
create_stop name (Alloc e) = alloc_stop e
create_stop name SameName = WasRefused (same_name name)
create_stop name TooMany = WasRefused too_many_tables

abbrev pub place_of : Place → ℕ × ℕ
place_of place = (place.id.0, place.entry)

-- the id and the entry of a new object of this name: 2714, 60002
abbrev pub place_among : List ℕ → List ℕ → Plan (ℕ × ℕ)
place_among name boot =
    unless_named boot name then (λ _.
    found_or (free_id boot) (refuse too_many_tables) then (λ id.
    found_or (free_entry boot) (refuse too_many_tables) then (λ i.
    give (id, i))))

-- the same on a page that is to be the catalog: 824
abbrev pub place_chosen : List ℕ → List ℕ → Plan (ℕ × ℕ)
place_chosen name boot = catalog_rows boot then (λ _. place_among name boot)

-- the heap gets its table, its chain and its entry
abbrev pub heap_created : FileShape → List ℕ → ℕ → ℕ → Plan Reply
heap_created shape name id i =
    take (resource.Table (record { 0 = id })) then (λ _.
    new_chain shape id then (λ q.
    entry_put i (new_heap id name q) then (λ _.
    give Done)))
