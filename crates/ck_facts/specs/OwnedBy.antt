-- Which pages objects own, as the maps tell it.
use Rattle.std.specs.Prelude.{◌≡◌, ℕ, ◌/◌, ◌==◌, ◌&&◌, ◌||◌, Bool, false, nat_lt, List, [], map, filter, slice_index}
use Rattle.std.specs.List.{list_any, range_with_len}
use Rattle.spec_file.specs.Pfs.{is_allocated_byte}
use Rattle.ck_facts.specs.declared.map.AllocMap.{AllocMap}
use Rattle.ck_facts.specs.declared.map.PageUse.{PageUse}
use Rattle.ck_facts.specs.Maps.{has_mark}
use Rattle.ck_facts.specs.MapOf.{extent_at, ids_of}
use Rattle.ck_facts.specs.Owners.{Owned, owned}

-- the i-th object marks the extent of page p, and the page is allocated
abbrev pub is_marked : AllocMap → ℕ → ℕ → Bool
is_marked m i p = has_mark (extent_at m (p / 8)) i && is_allocated_byte (slice_index m.pfs.items p)

-- the use is that of a single-page slot of the object
abbrev pub is_single : ℕ → PageUse → Bool
is_single id u = (u.object == id) && nat_lt u.place 8

-- one of the uses is that of a single-page slot of the object
abbrev pub is_held : ℕ → List PageUse → Bool
is_held id uses = list_any (is_single id) uses

-- the i-th object owns page p, which has these uses
abbrev pub is_owned_by : AllocMap → List PageUse → ℕ → ℕ → Bool
is_owned_by m uses p i = is_marked m i p || is_held (slice_index (ids_of m.objects.items) i) uses

-- page p, owned by the i-th object
abbrev pub owned_at : AllocMap → ℕ → ℕ → Owned
owned_at m p i = owned p (slice_index (ids_of m.objects.items) i)

-- page p, which has these uses, with each of the first n objects that owns it
abbrev pub owners_of : AllocMap → List PageUse → ℕ → ℕ → List Owned
owners_of m uses p n = map (owned_at m p) (filter (is_owned_by m uses p) (range_with_len 0 n))

-- an extent whose pages nobody uses, and that nobody marks
pub record IsUnowned (m : AllocMap) (e : ℕ) (uses : List PageUse) : Type 0 where
  pub unused : uses ≡ []
  pub unmarked : (i : ℕ) → has_mark (extent_at m e) i ≡ false
