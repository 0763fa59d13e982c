-- From clean maps and clean tables to a clean file.
use Rattle.std.proofs.Common.{◌≡◌, ◌/◌, length, sym, subst, refl, ⊎_elim}
use Rattle.std.proofs.lemmas.Bool.{cases_eq}
use Rattle.spec_file.specs.declared.geometry.Geometry.{Geometry}
use Rattle.spec_file.specs.declared.data.Resource.TheVariants.{Catalog, Table, Extent, Byte, Page}
use Rattle.spec_file.specs.Image.{Image}
use Rattle.spec_file.specs.CatalogRows.{CatalogRow}
use Rattle.spec_file.specs.Places.{HasShape}
use Rattle.spec_chain.specs.Chains.{IsObject}
use Rattle.spec_clean.specs.CleanTables.{HasCleanPages, IsCleanTable}
use Rattle.spec_clean.specs.CleanFiles.{HasCleanMaps, IsClean}
use Rattle.law_clean.proofs.CleanParts.{used_inside, clean_extent, clean_maps, clean_table}
use Rattle.law_frames.specs.Laws.{FileStaysClean}
use Rattle.law_frames.proofs.OtherObjects.{others_stay_clean}
use Rattle.law_frames.proofs.Held.{IsStart, chain_of, goods, extent_below}

-- the image after a step
pub after : (g : Geometry) (image image' : Image) → IsStart g image → length image' ≡ length image → HasCleanMaps g image' → IsStart g image'
after g image image' start size maps = record { shape = subst (HasShape g) (sym size) start.shape; clean = maps }

-- of a table clean maps leave its pages to be shown
pub maps_table : (g : Geometry) (image : Image) (row : CatalogRow) → IsStart g image → IsObject image row → HasCleanPages g image row → IsCleanTable g image row
maps_table g image row start object pages = record {
  chain = chain_of g image row start object;
  used = λ p place ordinary is. ((goods g image start (p / 8) (extent_below g image p start (used_inside g image row p place is))).pages p refl).used ordinary
      (record { object = row.id; place = place }) (row, object, refl, is);
  marked = λ p inside ordinary is. ((goods g image start (p / 8) (extent_below g image p start inside)).pages p refl).marked ordinary (row.id, (row, object, refl, is));
  pages = pages;
}

-- and of a file its tables
pub file_clean : (g : Geometry) (image : Image) → IsStart g image → ((row : CatalogRow) → IsObject image row → IsCleanTable g image row) → IsClean g image
file_clean g image start tables Catalog = start.clean.system
file_clean g image start tables (Table o) = λ row object same. tables row object
file_clean g image start tables (Extent e) = λ inside. clean_extent g image e.0 (goods g image start e.0 inside)
file_clean g image start tables (Byte p) = tt
file_clean g image start tables (Page p) = tt

-- so of a file the pages of the one object that a step is on
pub file_stays_clean : FileStaysClean
file_stays_clean g image image' o shape clean step own =
    let start : IsStart g image = record { shape = shape; clean = clean_maps g image shape clean } in
    let later = after g image image' start step.acts.size step.maps in
    file_clean g image' later (λ row object. ⊎_elim
    (λ same. maps_table g image' row later object (own row object same))
    (λ other. let old = (step.acts.rows row other).0 object in
    others_stay_clean g image image' o row step.acts old other (clean_table g image shape clean row old)) (cases_eq row.id o))
