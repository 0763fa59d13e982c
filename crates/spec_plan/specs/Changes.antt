-- The net changes of a page: its cells go from the first to the last byte that differs (the cut into cells
-- is this project's own).
use Rattle.std.specs.Prelude.{ℕ, ◌+◌, ◌-◌, ◌*◌, ◌==◌, not, List, [], ◌∷◌, ◌++◌, filter, slice_index, slice_range}
use Rattle.std.specs.List.{range_with_len}
use Rattle.spec_file.specs.Image.{page_size, maps_start}
use Rattle.spec_log.specs.declared.item.Cell.TheVariants.{Bytes}
use Rattle.spec_plan.specs.declared.plan.Planned.{Planned}

-- the offsets from lo to before hi at which two pages differ, rising
unfoldable pub differing : List ℕ → List ℕ → ℕ → ℕ → List ℕ
differing old new lo hi = filter (λ i. not (slice_index old i == slice_index new i)) (range_with_len lo (hi - lo))

-- the last member, or this one where there is none
abbrev pub last_of : ℕ → List ℕ → ℕ
last_of i [] = i
last_of i (j ∷ js) = last_of j js

-- page p changes from byte i to before byte j
abbrev pub bytes_change : ℕ → List ℕ → List ℕ → ℕ → ℕ → Planned
bytes_change p old new i j = record { cell = Bytes (record { 0 = p }) i; before = slice_range old i j; after = slice_range new i j }

abbrev pub change_over : ℕ → List ℕ → List ℕ → List ℕ → List Planned
change_over p old new [] = []
change_over p old new (i ∷ is) = bytes_change p old new i (last_of i is + 1) ∷ []

-- one cell for the bytes from lo to before hi, where any of them differs
abbrev pub change_between : ℕ → List ℕ → List ℕ → ℕ → ℕ → List Planned
change_between p old new lo hi = change_over p old new (differing old new lo hi)

-- the changes of an ordinary page that has so many slots, before or after: rows, slots, header
abbrev pub page_changes : ℕ → List ℕ → List ℕ → ℕ → List Planned
page_changes p old new slots =
    change_between p old new maps_start (page_size - 2 * slots)
    ++ (change_between p old new (page_size - 2 * slots) page_size ++ change_between p old new 0 maps_start)
