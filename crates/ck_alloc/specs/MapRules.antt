-- What the rules of extents and pages say of the maps of a file.
use Rattle.std.specs.Prelude.{◌⊎◌, ℕ, ◌+◌, ◌*◌, List, length, slice_index}
use Rattle.spec_file.specs.Roles.{role_of, is_system_extent}
use Rattle.spec_check.specs.declared.report.CheckError.{CheckError}
use Rattle.ck_error.specs.Gathered.{Below}
use Rattle.ck_facts.specs.declared.map.AllocMap.{AllocMap}
use Rattle.ck_facts.specs.declared.map.PageUse.{PageUse}
use Rattle.ck_facts.specs.MapOf.{extent_at, ids_of}
use Rattle.ck_facts.specs.PageUses.{uses_between}
use Rattle.ck_alloc.specs.declared.extents.ExtentState.{ExtentState}
use Rattle.ck_alloc.specs.declared.pages.PageState.{PageState}
use Rattle.ck_alloc.specs.Held.{holds_use, marked_ids}
use Rattle.ck_alloc.specs.ExtentRules.{ExtentSays}
use Rattle.ck_alloc.specs.PageRules.{PageSays}

abbrev pub extent_state : AllocMap → ℕ → ExtentState
extent_state m e = record {
  extent = e;
  free = (extent_at m e).free;
  mixed = (extent_at m e).mixed;
  system = is_system_extent m.geometry e;
  used = holds_use m.uses.items e;
}

-- the ids of the objects that mark the extent
abbrev pub markers_at : AllocMap → ℕ → List ℕ
markers_at m e = marked_ids (ids_of m.objects.items) (extent_at m e) (length m.objects.items)

abbrev pub page_state : AllocMap → ℕ → PageState
page_state m p = record { page = p; role = role_of m.geometry p; byte = slice_index m.pfs.items p }

abbrev pub uses_at : AllocMap → ℕ → List PageUse
uses_at m p = uses_between p (p + 1) m.uses.items

abbrev pub ExtentOfMapSays : AllocMap → ℕ → CheckError → Type 0
ExtentOfMapSays m e x = ExtentSays (extent_state m e) (markers_at m e) x

abbrev pub PagesOfMapSay : AllocMap → ℕ → CheckError → Type 0
PagesOfMapSay m e x = Below 8 (λ k. PageSays (page_state m (8 * e + k)) (uses_at m (8 * e + k)) (markers_at m e)) x

-- an error of the extent, or of one of its eight pages
abbrev pub PartOfMapSays : AllocMap → ℕ → CheckError → Type 0
PartOfMapSays m e x = ExtentOfMapSays m e x ⊎ PagesOfMapSay m e x
