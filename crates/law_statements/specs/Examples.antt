-- CREATE and DROP in a small file of 24 pages, worked by hand. Its pages hold only the bytes that count.
use Rattle.std.specs.Prelude.{◌≡◌, ℕ, List, [], ◌∷◌, ◌++◌, replicate}
use Rattle.spec_file.specs.declared.data.Resource.TheVariants.{Catalog, Table, Extent, Byte, Page}
use Rattle.spec_file.specs.Image.{Image}
use Rattle.spec_script.specs.declared.reply.Reply.TheVariants.{Done}
use Rattle.spec_plan.specs.Refusals.{held_by, same_name}
use Rattle.spec_words.specs.Views.{Stops}
use Rattle.spec_statements.specs.Objects.{create_plan, drop_plan}
use Rattle.law_alloc.specs.Examples.{small_file, map_page, maps, view_of, Finds, new_bytes, iam_bytes, no_slots, one_slot}

-- a file with these maps, this IAM page, and these bytes as the first entry of its catalog
abbrev pub file_of : Image → List ℕ → List ℕ → Image
file_of before iam entry = before ++ (replicate 4 [] ++ (iam ∷ map_page 13 9 entry ∷ replicate 14 []))

-- the heap `t`, object 1, whose IAM page is page 8
abbrev pub entry_of_t : List ℕ
entry_of_t = 1 ∷ 0 ∷ 0 ∷ 0 ∷ 1 ∷ 1 ∷ 116 ∷ replicate 17 0 ++ (8 ∷ replicate 15 0)

-- in a new file `t` becomes object 1, in the first entry, with page 8 as its IAM page
abbrev pub FirstIsCreated : Type 0
FirstIsCreated =
    Finds (create_plan small_file (116 ∷ [])) (view_of [] (file_of (maps new_bytes 4 2) [] (replicate 40 0))) Done
    (file_of (maps (112 ∷ 100 ∷ replicate 14 0) 4 2) [] entry_of_t)
    (Catalog ∷ Page (record { 0 = 8 }) ∷ Byte (record { 0 = 8 }) ∷ Extent (record { 0 = 1 }) ∷ Table (record { 0 = 1 }) ∷ [])

-- where `t` is there that is told, whoever holds it; where it isn't, that another transaction holds the new table
abbrev pub NameIsToldFirst : Type 0
NameIsToldFirst =
    ((create_plan small_file (116 ∷ []) (view_of (Table (record { 0 = 1 }) ∷ Table (record { 0 = 2 }) ∷ []) (file_of (maps new_bytes 4 2) [] entry_of_t))).ending ≡ Stops (same_name (116 ∷ [])))
    × ((create_plan small_file (117 ∷ []) (view_of (Table (record { 0 = 1 }) ∷ Table (record { 0 = 2 }) ∷ []) (file_of (maps new_bytes 4 2) [] entry_of_t))).ending ≡ Stops (held_by (Table (record { 0 = 2 })) 5))

-- a table without pages goes, and leaves a new file, but for the bytes of its IAM page
abbrev pub ChainIsDropped : Type 0
ChainIsDropped =
    Finds (drop_plan small_file (116 ∷ [])) (view_of [] (file_of (maps (112 ∷ 100 ∷ replicate 14 0) 4 2) (iam_bytes no_slots 0) entry_of_t)) Done
    (file_of (maps new_bytes 4 2) (iam_bytes no_slots 0) (replicate 40 0))
    (Catalog ∷ Byte (record { 0 = 8 }) ∷ Extent (record { 0 = 1 }) ∷ Table (record { 0 = 1 }) ∷ [])

-- so does one with page 10 in a slot and page 17 of the extent that it marks: slot and mark stay, the extent becomes free
abbrev pub PagesAreDropped : Type 0
PagesAreDropped =
    Finds (drop_plan small_file (116 ∷ []))
    (view_of [] (file_of (maps (112 ∷ 100 ∷ 97 ∷ replicate 6 0 ++ (64 ∷ replicate 6 0)) 0 2) (iam_bytes one_slot 4) entry_of_t)) Done
    (file_of (maps new_bytes 4 2) (iam_bytes one_slot 4) (replicate 40 0))
    (Catalog ∷ Byte (record { 0 = 8 }) ∷ Extent (record { 0 = 2 }) ∷ Byte (record { 0 = 17 }) ∷ Byte (record { 0 = 10 }) ∷ Extent (record { 0 = 1 }) ∷ Table (record { 0 = 1 }) ∷ [])
