-- The net changes between two images of a file: what differs, in the order and the cut in which a log has them (this
-- project's own).
use Rattle.std.specs.Prelude.{ℕ, zero, suc, ◌+◌, ◌-◌, ◌*◌, ◌/◌, ◌%◌, max, ◌==◌, ◌&&◌, ◌||◌, not, bytes_eq, Bool, if◌then◌else◌, List, [], ◌∷◌, ◌++◌, filter, flat_map, map, slice_index}
use Rattle.std.specs.List.{range_with_len}
use Rattle.spec_file.specs.declared.geometry.Geometry.{Geometry}
use Rattle.spec_file.specs.declared.page_type.TheConstants.{IAM_TYPE}
use Rattle.spec_file.specs.Image.{Image, page, page_size, maps_start}
use Rattle.spec_file.specs.Header.{page_type}
use Rattle.spec_file.specs.Places.{Place, gam_place, sgam_place, pfs_place, is_free}
use Rattle.spec_file.specs.Roles.{is_ordinary}
use Rattle.spec_chain.specs.Uses.{pfs_byte, is_allocated}
use Rattle.spec_rows.specs.Slots.{slot_count}
use Rattle.spec_log.specs.declared.item.Cell.{Cell}
use Rattle.spec_log.specs.declared.item.Cell.TheVariants.{Bytes, Bit}
use Rattle.spec_log.specs.Cells.{read_cell, map_bit}
use Rattle.spec_plan.specs.declared.plan.Planned.{Planned}
use Rattle.spec_plan.specs.Changes.{last_of}

-- what page 0 says of a file, which no statement changes
pub record FileShape : Type 0 where
  pub geometry : Geometry
  pub version : ℕ
  pub pages : ℕ

-- a cell of so many bytes, as it was and as it is
abbrev pub net_change : Image → Image → Cell → ℕ → Planned
net_change start now cell size = record { cell = cell; before = read_cell start cell size; after = read_cell now cell size }

abbrev pub extents_of : FileShape → List ℕ
extents_of shape = range_with_len 0 (shape.pages / 8)

abbrev pub pages_of : FileShape → List ℕ
pages_of shape = range_with_len 0 shape.pages

-- the bit at a place of a map turns
abbrev pub is_turned : Image → Image → Place → Bool
is_turned start now place = not (map_bit (page start place.page) place.at == map_bit (page now place.page) place.at)

abbrev pub bit_change : Image → Image → Place → Planned
bit_change start now place = net_change start now (Bit (record { 0 = place.page }) place.at) 1

-- the bits of these places, one for each extent, that turn
abbrev pub bit_changes : FileShape → (ℕ → Place) → Image → Image → List Planned
bit_changes shape place start now = map (λ e. bit_change start now (place e)) (filter (λ e. is_turned start now (place e)) (extents_of shape))

-- the PFS byte of page p differs
abbrev pub is_byte_changed : Geometry → Image → Image → ℕ → Bool
is_byte_changed g start now p = not (pfs_byte g start p == pfs_byte g now p)

-- how many pages there are from p on, at most n, whose PFS bytes differ one after another
abbrev pub run_length : Geometry → Image → Image → ℕ → ℕ → ℕ
run_length g start now zero p = 0
run_length g start now (suc n) p = if is_byte_changed g start now p then 1 + run_length g start now n (p + 1) else 0

-- a run begins at a page whose PFS byte differs, where that of the page before it in its extent doesn't
abbrev pub begins_run : Geometry → Image → Image → ℕ → Bool
begins_run g start now p = is_byte_changed g start now p && ((p % 8 == 0) || not (is_byte_changed g start now (p - 1)))

-- the run of neighbouring PFS bytes that differ, which begins at page p and stays in its extent
abbrev pub run_change : Geometry → Image → Image → ℕ → Planned
run_change g start now p =
    net_change start now (Bytes (record { 0 = (pfs_place g p).page }) (pfs_place g p).at) (run_length g start now (8 - p % 8) p)

abbrev pub run_changes : FileShape → Image → Image → List Planned
run_changes shape start now = map (run_change shape.geometry start now) (filter (begins_run shape.geometry start now) (pages_of shape))

-- the offsets of page p from low to before high at which the images differ, rising. The word stays closed in proofs,
-- since it would open into 8,192 bytes.
unfoldable pub differing : Image → Image → ℕ → ℕ → ℕ → List ℕ
differing start now p low high = filter (λ i. not (slice_index (page start p) i == slice_index (page now p) i)) (range_with_len low (high - low))

abbrev pub cell_over : Image → Image → ℕ → List ℕ → List Planned
cell_over start now p [] = []
cell_over start now p (i ∷ is) = net_change start now (Bytes (record { 0 = p }) i) (last_of i is + 1 - i) ∷ []

-- one cell from the first to the last byte that differs, of the bytes of page p from low to before high
abbrev pub part_changes : Image → Image → ℕ → ℕ → ℕ → List Planned
part_changes start now p low high = cell_over start now p (differing start now p low high)

-- page p is an IAM page: its bytes say so
abbrev pub is_iam : Image → ℕ → Bool
is_iam now p = page_type (page now p) == IAM_TYPE

-- page p becomes allocated: by its PFS bit, or as the first page of an extent that is no longer free
abbrev pub becomes_allocated : Geometry → Image → Image → ℕ → Bool
becomes_allocated g start now p =
    (not (is_allocated g start p) && is_allocated g now p)
    || ((p % 8 == 0) && (is_free g start (p / 8) && not (is_free g now (p / 8))))

-- where the slots of page p begin, by the greater count of before and after
abbrev pub slots_start : Image → Image → ℕ → ℕ
slots_start start now p = max maps_start (page_size - 2 * max (slot_count (page start p)) (slot_count (page now p)))

-- a page that objects may own: one cell for an IAM page and for one that becomes allocated; of any other rows, slots,
-- header
abbrev pub page_changes : Geometry → Image → Image → ℕ → List Planned
page_changes g start now p =
    if is_iam now p || becomes_allocated g start now p then part_changes start now p 0 page_size
    else (part_changes start now p maps_start (slots_start start now p)
    ++ (part_changes start now p (slots_start start now p) page_size ++ part_changes start now p 0 maps_start))

-- page p, which objects may own, differs
abbrev pub is_page_changed : Geometry → Image → Image → ℕ → Bool
is_page_changed g start now p = is_ordinary g p && not (bytes_eq (page start p) (page now p))

abbrev pub iam_changes : FileShape → Image → Image → List Planned
iam_changes shape start now =
    flat_map (page_changes shape.geometry start now) (filter (λ p. is_page_changed shape.geometry start now p && is_iam now p) (pages_of shape))

abbrev pub other_changes : FileShape → Image → Image → List Planned
other_changes shape start now =
    flat_map (page_changes shape.geometry start now) (filter (λ p. is_page_changed shape.geometry start now p && not (is_iam now p)) (pages_of shape))

-- the net changes: GAM bits, SGAM bits, PFS bytes, IAM pages, page 9, other pages, each rising
abbrev pub changes_of : FileShape → Image → Image → List Planned
changes_of shape start now =
    bit_changes shape (gam_place shape.geometry) start now ++ (bit_changes shape (sgam_place shape.geometry) start now
    ++ (run_changes shape start now ++ (iam_changes shape start now ++ (part_changes start now 9 0 page_size ++ other_changes shape start now))))
