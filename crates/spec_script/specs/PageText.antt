-- The header and the slots of a page as text (this project's own). Slot i has its two bytes at 8,190 - 2·i.
use Rattle.std.specs.Prelude.{ℕ, ◌*◌, ◌-◌, min, List, ◌++◌, codes, decimal, flat_map}
use Rattle.std.specs.List.{range_with_len}
use Rattle.spec_file.specs.Image.{number_at}
use Rattle.spec_file.specs.Header.{header_of}
use Rattle.spec_file.specs.declared.header.Header.{Header}

unfoldable pub header_lines : ℕ → Header → List ℕ
header_lines p header =
    codes "page " ++ decimal p ++ codes "\ntype " ++ decimal header.page_type ++ codes " level " ++ decimal header.level
    ++ codes " object " ++ decimal header.object.0 ++ codes "\nprev " ++ decimal header.prev.0 ++ codes " next "
    ++ decimal header.next.0 ++ codes "\nslots " ++ decimal header.slots ++ codes " free " ++ decimal header.free_count
    ++ codes " freedata " ++ decimal header.free_from ++ codes " ghosts " ++ decimal header.ghosts ++ codes "\n"

-- the offset that slot i has, on a page of these bytes
unfoldable pub slot_line : List ℕ → ℕ → List ℕ
slot_line bytes i = codes "slot " ++ decimal i ++ codes " offset " ++ decimal (number_at 2 (8190 - 2 * i) bytes) ++ codes "\n"

-- how many slots are shown
abbrev pub shown_slots : Header → ℕ
shown_slots header = min header.slots 4048

unfoldable pub page_text : ℕ → List ℕ → List ℕ
page_text p bytes =
    header_lines p (header_of bytes) ++ flat_map (slot_line bytes) (range_with_len 0 (shown_slots (header_of bytes)))
