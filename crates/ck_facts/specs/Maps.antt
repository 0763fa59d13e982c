-- The maps that a check keeps, and what they say of an image.
use Rattle.std.specs.Prelude.{◌≡◌, ◌↔◌, ℕ, ◌/◌, ◌%◌, ◌==◌, Bool, IsTrue, List, [], map, slice_index, slice_get, Some, Contains}
use Rattle.std.specs.Int.{bit_at}
use Rattle.std.specs.List.Sorted.{IsStrictlySortedBy}
use Rattle.std.specs.Ordering.{nat_cmp, on, then_cmp}
use Rattle.std.specs.declared.cmp.Ordering.{Ordering}
use Rattle.spec_file.specs.declared.geometry.Geometry.{Geometry}
use Rattle.spec_file.specs.Image.{Image}
use Rattle.spec_file.specs.Places.{is_free, is_mixed}
use Rattle.spec_file.specs.CatalogRows.{CatalogRow}
use Rattle.spec_chain.specs.Chains.{IsObject}
use Rattle.spec_chain.specs.Marks.{IsMarked}
use Rattle.spec_chain.specs.Uses.{Use, IsUse}
use Rattle.db_cat.specs.declared.rows.CatRow.{CatRow}
use Rattle.db_cat.specs.Rows.{row_of}
use Rattle.ck_facts.specs.declared.map.AllocMap.{AllocMap}
use Rattle.ck_facts.specs.declared.map.PageUse.{PageUse}
use Rattle.ck_facts.specs.declared.map.ExtentMap.{ExtentMap}

-- a check goes on behind the maps only where no system page is wrong
abbrev pub HasNoSystemErrors : AllocMap → Type 0
HasNoSystemErrors m = m.system.items ≡ []

-- uses are ordered by page, object and place
abbrev pub page_use_cmp : PageUse → PageUse → Ordering
page_use_cmp =
    then_cmp (on (λ u. u.page) nat_cmp) (then_cmp (on (λ u. u.object) nat_cmp) (on (λ u. u.place) nat_cmp))

-- the use that an entry tells of
abbrev pub use_of : PageUse → Use
use_of u = record { object = u.object; place = u.place }

-- the list has all uses of the image's pages
pub record AreAllUses (g : Geometry) (image : Image) (uses : List PageUse) : Type 0 where
  pub sorted : IsStrictlySortedBy page_use_cmp uses
  pub sound : (u : PageUse) → Contains uses u → IsUse g image u.page (use_of u)
  pub complete : (p : ℕ) (v : Use) → IsUse g image p v → Contains uses (record { page = p; object = v.object; place = v.place })

-- the objects of the image by id
pub record AreObjects (image : Image) (rows : List CatalogRow) : Type 0 where
  pub sorted : IsStrictlySortedBy (on (λ r. r.id) nat_cmp) rows
  pub same : (r : CatalogRow) → Contains rows r ↔ IsObject image r

-- the i-th object marks the extent
abbrev pub has_mark : ExtentMap → ℕ → Bool
has_mark x i = bit_at (slice_index x.marks (i / 8)) (i % 8) == 1

-- what the maps and the objects say of an extent
pub record IsExtentOf (g : Geometry) (image : Image) (rows : List CatalogRow) (e : ℕ) (x : ExtentMap) : Type 0 where
  pub free : x.free ≡ is_free g image e
  pub mixed : x.mixed ≡ is_mixed g image e
  pub marks : (i : ℕ) (row : CatalogRow) → slice_get rows i ≡ Some row → IsTrue (has_mark x i) ↔ IsMarked g image row e

pub record AreExtents (g : Geometry) (image : Image) (rows : List CatalogRow) (extents : List ExtentMap) : Type 0 where
  pub each : (e : ℕ) (x : ExtentMap) → slice_get extents e ≡ Some x → IsExtentOf g image rows e x

-- the objects as the definitions see them
abbrev pub rows_of_objects : List CatRow → List CatalogRow
rows_of_objects objects = map row_of objects
