-- The bytes of an item, and of a log (this project's own). Numbers have their lowest byte first.
use Rattle.std.specs.Prelude.{ℕ, List, [], ◌∷◌, ◌++◌, length, flat_map, ◌*◌, ◌+◌}
use Rattle.byteorder.specs.Endian.{little_bytes}
use Rattle.spec_file.specs.declared.data.Resource.{Resource}
use Rattle.spec_log.specs.declared.item.Cell.{Cell}
use Rattle.spec_log.specs.declared.item.Cell.TheVariants.{Bytes, Bit}
use Rattle.spec_log.specs.declared.item.Record.{Record}
use Rattle.spec_log.specs.declared.item.Record.TheVariants.{Start, Change, Undo, Commit, Abort, Snap, Failed, CheckEnd}
use Rattle.spec_log.specs.Items.{grain_of, number_of}

-- a resource: its grain in one byte, its number in four
abbrev pub resource_bytes : Resource → List ℕ
resource_bytes r = grain_of r ∷ little_bytes 4 (number_of r)

-- a cell: 1 for bytes and 2 for a bit, the page, the offset or the bit
abbrev pub cell_bytes : Cell → List ℕ
cell_bytes (Bytes page off) = 1 ∷ little_bytes 4 page.0 ++ little_bytes 4 off
cell_bytes (Bit page n) = 2 ∷ little_bytes 4 page.0 ++ little_bytes 4 n

-- an item: its kind in one byte, then its fields
abbrev pub item_bytes : Record → List ℕ
item_bytes (Start session index tran number changes size takes) =
    1 ∷ little_bytes 2 session ++ little_bytes 4 index ++ little_bytes 8 tran.0 ++ little_bytes 2 number
    ++ little_bytes 4 changes ++ little_bytes 8 size ++ little_bytes 4 (length takes) ++ flat_map resource_bytes takes
item_bytes (Change tran cell before after) =
    2 ∷ little_bytes 8 tran.0 ++ cell_bytes cell ++ little_bytes 2 (length after) ++ before ++ after
item_bytes (Undo tran change) = 3 ∷ little_bytes 8 tran.0 ++ little_bytes 8 change.0
item_bytes (Commit tran) = 4 ∷ little_bytes 8 tran.0
item_bytes (Abort tran) = 5 ∷ little_bytes 8 tran.0
item_bytes (Snap session index) = 6 ∷ little_bytes 2 session ++ little_bytes 4 index
item_bytes (Failed session index page) = 7 ∷ little_bytes 2 session ++ little_bytes 4 index ++ little_bytes 4 page.0
item_bytes (CheckEnd session index outcome) = 8 ∷ little_bytes 2 session ++ little_bytes 4 index ++ outcome ∷ []

-- the bytes of a log, which is the list of its items, the newest first
abbrev pub log_bytes : List Record → List ℕ
log_bytes [] = []
log_bytes (x ∷ older) = log_bytes older ++ item_bytes x

-- the bytes that a change has in the log
abbrev pub change_length : ℕ → ℕ
change_length n = 20 + 2 * n
