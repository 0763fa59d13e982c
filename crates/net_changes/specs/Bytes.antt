-- The net changes of one page, by its bytes before and after.
use Rattle.std.specs.Prelude.{ℕ, zero, suc, ◌+◌, ◌-◌, ◌%◌, min, max, ◌==◌, ◌&&◌, ◌||◌, not, bytes_eq, Bool, true, false, if◌then◌else◌, List, [], ◌∷◌, filter, map, slice_index}
use Rattle.std.specs.List.{range_with_len}
use Rattle.spec_file.specs.declared.geometry.Geometry.{Geometry}
use Rattle.spec_file.specs.declared.page_type.TheConstants.{IAM_TYPE}
use Rattle.spec_file.specs.Image.{page_size, maps_start}
use Rattle.spec_file.specs.Header.{page_type}
use Rattle.spec_file.specs.Roles.{is_ordinary}
use Rattle.spec_rows.specs.declared.sizes.TheConstants.{SLOT_LIMIT}
use Rattle.spec_rows.specs.Slots.{slot_count}
use Rattle.spec_log.specs.declared.item.Cell.TheVariants.{Bit}
use Rattle.spec_log.specs.Cells.{map_bit}
use Rattle.spec_plan.specs.declared.plan.Planned.{Planned}
use Rattle.spec_plan.specs.Changes.{bytes_change, change_between, page_changes}

-- bit n of a map page turns
abbrev pub is_bit_turned : List ℕ → List ℕ → ℕ → Bool
is_bit_turned old new n = not (map_bit old n == map_bit new n)

abbrev pub bit_between : ℕ → List ℕ → List ℕ → ℕ → Planned
bit_between q old new n = record { cell = Bit (record { 0 = q }) n; before = map_bit old n ∷ []; after = map_bit new n ∷ [] }

-- the bits of map page q that turn, of so many from bit `low` on, rising
unfoldable pub bits_between : ℕ → List ℕ → List ℕ → ℕ → ℕ → List Planned
bits_between q old new low n = map (bit_between q old new) (filter (is_bit_turned old new) (range_with_len low n))

-- byte `at` differs
abbrev pub is_differing : List ℕ → List ℕ → ℕ → Bool
is_differing old new at = not (slice_index old at == slice_index new at)

-- how many bytes from one on differ one after another, at most n
abbrev pub differing_length : List ℕ → List ℕ → ℕ → ℕ → ℕ
differing_length old new zero at = 0
differing_length old new (suc n) at = if is_differing old new at then 1 + differing_length old new n (at + 1) else 0

-- a run begins at byte k of those of a PFS page: it differs, where that before it in its extent doesn't
abbrev pub begins_at : List ℕ → List ℕ → ℕ → Bool
begins_at old new k = is_differing old new (maps_start + k) && ((k % 8 == 0) || not (is_differing old new (maps_start + k - 1)))

abbrev pub run_between : ℕ → List ℕ → List ℕ → ℕ → Planned
run_between q old new k = bytes_change q old new (maps_start + k) (maps_start + k + differing_length old new (8 - k % 8) (maps_start + k))

-- the runs of PFS page q that begin at one of so many bytes from byte `low` on, rising
unfoldable pub runs_between : ℕ → List ℕ → List ℕ → ℕ → ℕ → List Planned
runs_between q old new low n = map (run_between q old new) (filter (begins_at old new) (range_with_len low n))

-- page p, which objects may own, differs
abbrev pub is_changed_page : Geometry → ℕ → List ℕ → List ℕ → Bool
is_changed_page g p old new = is_ordinary g p && not (bytes_eq old new)

-- an IAM page, or none
abbrev pub is_kind : Bool → List ℕ → Bool
is_kind true new = page_type new == IAM_TYPE
is_kind false new = not (page_type new == IAM_TYPE)

-- the greater count of slots, as far as slots reach
abbrev pub slots_between : List ℕ → List ℕ → ℕ
slots_between old new = min (max (slot_count old) (slot_count new)) SLOT_LIMIT

-- the changes of page p, in one cell or by its parts
abbrev pub page_between : Bool → ℕ → List ℕ → List ℕ → List Planned
page_between true p old new = change_between p old new 0 page_size
page_between false p old new = page_changes p old new (slots_between old new)
