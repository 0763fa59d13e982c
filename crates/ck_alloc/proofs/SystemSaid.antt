-- What the system places of a file say, one kind after another.
use Rattle.std.proofs.Common.{◌≡◌, ℕ, ◌/◌, List, [], Option, Some, None, IfSome, length, subst, refl}
use Rattle.std.specs.Option.{ForSome}
use Rattle.spec_file.specs.declared.geometry.Geometry.{Geometry}
use Rattle.spec_file.specs.Image.{Image, page}
use Rattle.spec_check.specs.declared.report.CheckError.{CheckError}
use Rattle.ck_error.specs.Gathered.{Adds}
use Rattle.ck_error.proofs.GatheringLaws.{adds_both, gathers_first}
use Rattle.spec_file.specs.Places.{HasShape}
use Rattle.ck_alloc.specs.declared.places.SystemKind.TheVariants.{Pfs, Gam, Sgam}
use Rattle.ck_alloc.specs.declared.system_maps.SystemMaps.{SystemMaps}
use Rattle.ck_alloc.specs.SystemPlaces.{place_count, bit_in, byte_in}
use Rattle.ck_alloc.specs.SystemMaps.{PagesRead, ArePagesOf, GivesError, IsErrorOfPages, SaysValues, AreSaidBy, AreSystemMaps, HaveSizes, AreMapsRead}
use Rattle.spec_file.specs.Catalog.{PassesCatalog}
use Rattle.ck_alloc.proofs.OfImage.{told_maps, sizes_of}
use Rattle.ck_alloc.proofs.BootTested.{boot_tested}

-- what was read, kind by kind, each by a reader that may tell its image
pub record IsReadInTurn (g : Geometry) (pages : ℕ) (told : Option Image) (maps : SystemMaps) : Type 0 where
  pub none : List CheckError
  pub one : List CheckError
  pub two : List CheckError
  pub three : List CheckError
  pub empty : none ≡ []
  pub gam : SaysValues Gam g (bit_in g) (place_count Gam g pages) (pages / 8) told none one maps.free.items
  pub sgam : SaysValues Sgam g (bit_in g) (place_count Sgam g pages) (pages / 8) told one two maps.mixed.items
  pub pfs : SaysValues Pfs g (byte_in g) (place_count Pfs g pages) pages told two three maps.pfs.items
  pub boot : IfSome told (λ image. maps.boot.value.bytes ≡ page image 9)
  pub last : Adds three maps.errors.items (GivesError g 9 maps.boot.value.bytes)

pages_read : (g : Geometry) (pages : ℕ) (told : Option Image) (maps : SystemMaps) → IsReadInTurn g pages told maps → PagesRead
pages_read g pages told maps r = record { pfs = r.pfs.found; gam = r.gam.found; sgam = r.sgam.found; boot = maps.boot.value.bytes }

said_by : (g : Geometry) (pages : ℕ) (told : Option Image) (maps : SystemMaps) (r : IsReadInTurn g pages told maps)
    → AreSaidBy g pages (pages_read g pages told maps r) maps
unfolding pages_read
said_by g pages told maps r = record {
  errors = gathers_first maps.errors.items (IsErrorOfPages g (pages_read g pages told maps r)) (subst (λ l. Adds l maps.errors.items (IsErrorOfPages g (pages_read g pages told maps r))) r.empty
      (adds_both _ _ _ _ _ (adds_both _ _ _ _ _ (adds_both _ _ _ _ _ r.gam.errors r.sgam.errors) r.pfs.errors) r.last));
  free = r.gam.values_are;
  mixed = r.sgam.values_are;
  pfs = r.pfs.values_are;
  boot = refl;
}

pages_are : (g : Geometry) (pages : ℕ) (told : Option Image) (maps : SystemMaps) (r : IsReadInTurn g pages told maps)
    → IfSome told (ArePagesOf g pages (pages_read g pages told maps r))
unfolding pages_read
pages_are g pages None maps r = tt
pages_are g pages (Some image) maps r = record { pfs = r.pfs.are; gam = r.gam.are; sgam = r.sgam.are; boot = r.boot }

system_told : (g : Geometry) (pages : ℕ) (told : Option Image) (maps : SystemMaps) → HasShape g pages → ForSome told (λ image. length image ≡ pages)
    → IsReadInTurn g pages told maps → IfSome told (AreSystemMaps g maps)
system_told g pages told maps shape whole r =
    told_maps told g pages (pages_read g pages told maps r) maps shape whole (pages_are g pages told maps r) (said_by g pages told maps r)

system_sizes : (g : Geometry) (pages : ℕ) (told : Option Image) (maps : SystemMaps) → IsReadInTurn g pages told maps → HaveSizes pages maps
system_sizes g pages told maps r = sizes_of g pages (pages_read g pages told maps r) maps (said_by g pages told maps r)

system_boot : (g : Geometry) (pages : ℕ) (told : Option Image) (maps : SystemMaps) → IsReadInTurn g pages told maps
    → maps.errors.items ≡ [] → (PassesCatalog maps.boot.value.bytes → ⊥) → ⊥
system_boot g pages told maps r = boot_tested g pages (pages_read g pages told maps r) maps (said_by g pages told maps r)

pub maps_read : (g : Geometry) (pages : ℕ) (told : Option Image) (maps : SystemMaps) → HasShape g pages → ForSome told (λ image. length image ≡ pages)
    → IsReadInTurn g pages told maps → AreMapsRead g pages told maps
maps_read g pages told maps shape whole r = record {
  said = system_told g pages told maps shape whole r;
  sizes = system_sizes g pages told maps r;
  boot = system_boot g pages told maps r;
}
