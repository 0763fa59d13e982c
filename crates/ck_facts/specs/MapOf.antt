-- The maps are those of an image.
use Rattle.std.specs.Prelude.{◌≡◌, ℕ, false, List, [], length, map, replicate, slice_index_or}
use Rattle.std.specs.List.{range_with_len}
use Rattle.spec_file.specs.Image.{Image}
use Rattle.spec_chain.specs.Uses.{pfs_byte}
use Rattle.spec_check.specs.Errors.{Lists}
use Rattle.spec_check.specs.System.{IsSystemError}
use Rattle.spec_check.specs.Chains.{IsChainError}
use Rattle.ck_error.specs.Gathered.{Gathers}
use Rattle.db_cat.specs.declared.rows.CatRow.{CatRow}
use Rattle.ck_facts.specs.declared.map.AllocMap.{AllocMap}
use Rattle.ck_facts.specs.declared.map.ExtentMap.{ExtentMap}
use Rattle.ck_facts.specs.Maps.{HasNoSystemErrors, AreAllUses, AreObjects, AreExtents, rows_of_objects}

-- all that the maps keep where no system page is wrong
pub record IsWholeMapOf (image : Image) (m : AllocMap) : Type 0 where
  pub objects : AreObjects image (rows_of_objects m.objects.items)
  pub chains : Gathers m.chains.items (IsChainError m.geometry image)
  pub uses : AreAllUses m.geometry image m.uses.items
  pub extents : AreExtents m.geometry image (rows_of_objects m.objects.items) m.extents.items
  pub pfs : m.pfs.items ≡ map (pfs_byte m.geometry image) (range_with_len 0 m.pages)

pub record IsMapOf (image : Image) (m : AllocMap) : Type 0 where
  pub pages : length image ≡ m.pages
  pub system : Lists m.system.items (IsSystemError m.geometry image)
  pub whole : HasNoSystemErrors m → IsWholeMapOf image m

-- what stands for the map of an extent past the file's end
abbrev pub no_extent : ExtentMap
no_extent = record { free = false; mixed = false; marks = replicate 16 0 }

-- what the maps keep of an extent
abbrev pub extent_at : AllocMap → ℕ → ExtentMap
extent_at m e = slice_index_or m.extents.items e no_extent

-- the ids of the objects
abbrev pub ids_of : List CatRow → List ℕ
ids_of objects = map (λ row. row.id.0) objects
