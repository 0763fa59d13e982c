-- Net changes and takes of small files, worked by hand. Their pages hold only the bytes that count.
use Rattle.std.specs.Prelude.{◌≡◌, ℕ, ◌-◌, ◌*◌, true, false, List, [], ◌∷◌, ◌++◌, replicate}
use Rattle.spec_file.specs.declared.data.Resource.TheVariants.{Table, Extent, Byte, Page}
use Rattle.spec_file.specs.declared.geometry.Geometry.TheVariants.{Small}
use Rattle.spec_file.specs.Image.{Image, page_size, maps_start}
use Rattle.spec_log.specs.declared.item.Cell.TheVariants.{Bytes}
use Rattle.spec_log.specs.Items.{is_same}
use Rattle.spec_plan.specs.declared.plan.Planned.{Planned}
use Rattle.spec_words.specs.NetChanges.{FileShape, run_changes, part_changes, slots_start, becomes_allocated}
use Rattle.spec_words.specs.Takes.{takes_of}
use Rattle.law_net.specs.Touched.{changes_under}

abbrev pub small_file : FileShape
small_file = record { geometry = Small; version = 1; pages = 24 }

-- page 1, with the PFS bytes of the first pages, and page 2, with the GAM bits of the first extents, eight a byte
abbrev pub maps_file : List ℕ → List ℕ → Image
maps_file pfs gam = [] ∷ (replicate maps_start 0 ++ pfs) ∷ (replicate maps_start 0 ++ gam) ∷ []

abbrev pub bytes_change : ℕ → ℕ → List ℕ → List ℕ → Planned
bytes_change p at before after = record { cell = Bytes (record { 0 = p }) at; before = before; after = after }

-- the PFS bytes of pages 8, 9, 11, 15, 16 and 17 differ. Those of 8 and 9 are one change; those of 15 and 16 are two,
-- since page 16 begins an extent
abbrev pub RunsStayInExtents : Type 0
RunsStayInExtents =
    run_changes small_file (maps_file (replicate 24 0) []) (maps_file (replicate 8 0 ++ (1 ∷ 2 ∷ 0 ∷ 3 ∷ 0 ∷ 0 ∷ 0 ∷ 4 ∷ 5 ∷ 6 ∷ 0 ∷ [])) [])
    ≡ bytes_change 1 104 (0 ∷ 0 ∷ []) (1 ∷ 2 ∷ []) ∷ bytes_change 1 107 (0 ∷ []) (3 ∷ []) ∷ bytes_change 1 111 (0 ∷ []) (4 ∷ [])
    ∷ bytes_change 1 112 (0 ∷ 0 ∷ []) (5 ∷ 6 ∷ []) ∷ []

-- of bytes 2 to 6, bytes 3 and 5 differ: one cell from the first to the last
abbrev pub CellsGoToTheLast : Type 0
CellsGoToTheLast =
    part_changes ((0 ∷ 0 ∷ 0 ∷ 0 ∷ 0 ∷ 0 ∷ 0 ∷ 0 ∷ []) ∷ []) ((1 ∷ 0 ∷ 0 ∷ 2 ∷ 0 ∷ 3 ∷ 0 ∷ 4 ∷ []) ∷ []) 0 2 7
    ≡ bytes_change 0 3 (0 ∷ 0 ∷ 0 ∷ []) (2 ∷ 0 ∷ 3 ∷ []) ∷ []

-- a page with a count of slots, which stands in bytes 20 and 21
abbrev pub slots_file : ℕ → ℕ → Image
slots_file low high = (replicate 20 0 ++ low ∷ high ∷ []) ∷ []

-- slots begin by the greater count, be it that of before, 2, or of after, 257
abbrev pub SlotsBeginByTheGreater : Type 0
SlotsBeginByTheGreater =
    (slots_start (slots_file 2 0) (slots_file 1 1) 0 ≡ page_size - 2 * 257) × (slots_start (slots_file 1 1) (slots_file 2 0) 0 ≡ page_size - 2 * 257)

-- page 8 becomes allocated where bit 6 of its PFS byte is set, or where its extent, 1, is no longer free
abbrev pub PagesBecomeAllocated : Type 0
PagesBecomeAllocated =
    (becomes_allocated Small (maps_file (replicate 8 0 ++ 4 ∷ []) []) (maps_file (replicate 8 0 ++ 68 ∷ []) []) 8 ≡ true)
    × (becomes_allocated Small (maps_file [] (2 ∷ [])) (maps_file [] (0 ∷ [])) 8 ≡ true)

-- another fullness doesn't make it so, nor is a later page of the extent told by the GAM bit, nor one that was allocated
abbrev pub OthersDoNot : Type 0
OthersDoNot =
    (becomes_allocated Small (maps_file (replicate 8 0 ++ 65 ∷ []) []) (maps_file (replicate 8 0 ++ 68 ∷ []) []) 8 ≡ false)
    × (becomes_allocated Small (maps_file [] (2 ∷ [])) (maps_file [] (0 ∷ [])) 9 ≡ false)
    × (becomes_allocated Small (maps_file (replicate 8 0 ++ 68 ∷ []) []) (maps_file (replicate 8 0 ++ 0 ∷ []) []) 8 ≡ false)

-- the PFS bytes of pages 8 and 9 differ, table 2 is held. Takes are in order and once; what doesn't differ isn't one
abbrev pub TakesAreInOrder : Type 0
TakesAreInOrder =
    takes_of small_file (is_same (Table (record { 0 = 2 })))
    (Byte (record { 0 = 10 }) ∷ Byte (record { 0 = 9 }) ∷ Byte (record { 0 = 8 }) ∷ Page (record { 0 = 20 }) ∷ Table (record { 0 = 3 })
    ∷ Extent (record { 0 = 2 }) ∷ Table (record { 0 = 2 }) ∷ Table (record { 0 = 1 }) ∷ Table (record { 0 = 3 }) ∷ [])
    (maps_file (replicate 24 0) []) (maps_file (replicate 8 0 ++ 1 ∷ 2 ∷ []) [])
    ≡ Table (record { 0 = 1 }) ∷ Table (record { 0 = 3 }) ∷ Extent (record { 0 = 2 }) ∷ Byte (record { 0 = 8 }) ∷ Byte (record { 0 = 9 }) ∷ []

-- what was taken twice, and bytes side by side, are one change
abbrev pub ChangesAreListedOnce : Type 0
ChangesAreListedOnce =
    changes_under small_file (Byte (record { 0 = 9 }) ∷ Byte (record { 0 = 8 }) ∷ Byte (record { 0 = 9 }) ∷ Page (record { 0 = 20 }) ∷ [])
    (maps_file (replicate 24 0) []) (maps_file (replicate 8 0 ++ 1 ∷ 2 ∷ []) [])
    ≡ bytes_change 1 104 (0 ∷ 0 ∷ []) (1 ∷ 2 ∷ []) ∷ []
