-- What the maps hold of one extent and of one page: its uses and the objects that mark it.
use Rattle.std.specs.Prelude.{ℕ, ◌+◌, ◌*◌, ◌==◌, ◌||◌, Bool, not, List, length, map, filter, slice_index}
use Rattle.std.specs.List.{range_with_len}
use Rattle.ck_facts.specs.declared.map.PageUse.{PageUse}
use Rattle.ck_facts.specs.declared.map.ExtentMap.{ExtentMap}
use Rattle.ck_facts.specs.Maps.{has_mark}
use Rattle.ck_facts.specs.PageUses.{uses_between}

-- whether a page of the extent has a use, or is the boot page
abbrev pub holds_use : List PageUse → ℕ → Bool
holds_use uses e = not (length (uses_between (8 * e) (8 * e + 8) uses) == 0) || (e == 1)

-- of the first n ids, those that the extent's marks name
abbrev pub marked_ids : List ℕ → ExtentMap → ℕ → List ℕ
marked_ids ids x n = map (slice_index ids) (filter (has_mark x) (range_with_len 0 n))
