-- The system pages of a file, and what they say of its extents and pages.
use Rattle.std.specs.Prelude.{◌≡◌, ◌⊎◌, ℕ, ◌/◌, List, [], length, map, vec_len, Option, IfSome}
use Rattle.std.specs.List.{range_with_len}
use Rattle.spec_file.specs.declared.geometry.Geometry.{Geometry}
use Rattle.spec_file.specs.Image.{Image, page}
use Rattle.spec_file.specs.Places.{is_free, is_mixed, extent_count}
use Rattle.spec_file.specs.Catalog.{PassesCatalog}
use Rattle.spec_chain.specs.Uses.{pfs_byte}
use Rattle.spec_check.specs.declared.report.CheckError.{CheckError}
use Rattle.spec_check.specs.System.{IsWrong, IsErrorOf, IsSystemError}
use Rattle.ck_error.specs.Gathered.{Gathers, Adds, Below}
use Rattle.ck_alloc.specs.declared.places.SystemKind.{SystemKind}
use Rattle.ck_alloc.specs.declared.places.SystemKind.TheVariants.{Pfs, Gam, Sgam}
use Rattle.ck_alloc.specs.declared.system_maps.SystemMaps.{SystemMaps}
use Rattle.ck_alloc.specs.SystemPlaces.{rest_of, place_of, place_count, places_of_image, bit_in, byte_in}

-- the bytes of all system places of a file, by kind, and of its boot page
pub record PagesRead : Type 0 where
  pub pfs : List (List ℕ)
  pub gam : List (List ℕ)
  pub sgam : List (List ℕ)
  pub boot : List ℕ

-- they are those of the image
pub record ArePagesOf (g : Geometry) (pages : ℕ) (found : PagesRead) (image : Image) : Type 0 where
  pub pfs : found.pfs ≡ places_of_image Pfs g image (place_count Pfs g pages)
  pub gam : found.gam ≡ places_of_image Gam g image (place_count Gam g pages)
  pub sgam : found.sgam ≡ places_of_image Sgam g image (place_count Sgam g pages)
  pub boot : found.boot ≡ page image 9

-- page p with these bytes is wrong, and gives this error
abbrev pub GivesError : Geometry → ℕ → List ℕ → CheckError → Type 0
GivesError g p bytes x = IsWrong g p bytes × IsErrorOf g p bytes x

-- the k-th place of a kind has these bytes, is wrong, and gives this error
abbrev pub GivesErrorAt : SystemKind → Geometry → List (List ℕ) → ℕ → CheckError → Type 0
GivesErrorAt kind g found k x = GivesError g (place_of kind g k) (page found k) x

-- the k-th place of a kind was read, where a reader may tell its image: its errors were added, and the first n values
-- that it holds are those of the file
pub record IsPlaceRead (kind : SystemKind) (g : Geometry) (pages k : ℕ) (told : Option Image) (old new : List CheckError) (bytes : List ℕ) (n : ℕ) : Type 0 where
  pub is : IfSome told (λ image. bytes ≡ page image (place_of kind g k))
  pub errors : Adds old new (GivesError g (place_of kind g k) bytes)
  pub rest : n ≡ rest_of kind g pages k

-- an error of one of the pages of a kind
abbrev pub IsErrorOfKind : SystemKind → Geometry → List (List ℕ) → CheckError → Type 0
IsErrorOfKind kind g found x = Below (length found) (GivesErrorAt kind g found) x

-- an error of one of the pages
abbrev pub IsErrorOfPages : Geometry → PagesRead → CheckError → Type 0
IsErrorOfPages g found x =
    ((IsErrorOfKind Gam g found.gam x ⊎ IsErrorOfKind Sgam g found.sgam x)
    ⊎ IsErrorOfKind Pfs g found.pfs x) ⊎ GivesError g 9 found.boot x

-- the first n places of a kind were read, where a reader may tell its image: their errors were added, and the
-- values that they hold are these, so many of them
pub record SaysValues {X : Type 0} (kind : SystemKind) (g : Geometry) (value : List (List ℕ) → ℕ → X) (n count : ℕ)
    (told : Option Image) (old new : List CheckError) (values : List X) : Type 0 where
  pub found : List (List ℕ)
  pub are : IfSome told (λ image. found ≡ places_of_image kind g image n)
  pub size : length found ≡ n
  pub errors : Adds old new (IsErrorOfKind kind g found)
  pub values_are : values ≡ map (value found) (range_with_len 0 count)

-- what the pages that were read say, one after another
pub record AreSaidBy (g : Geometry) (pages : ℕ) (found : PagesRead) (maps : SystemMaps) : Type 0 where
  pub errors : Gathers maps.errors.items (IsErrorOfPages g found)
  pub free : maps.free.items ≡ map (bit_in g found.gam) (range_with_len 0 (pages / 8))
  pub mixed : maps.mixed.items ≡ map (bit_in g found.sgam) (range_with_len 0 (pages / 8))
  pub pfs : maps.pfs.items ≡ map (byte_in g found.pfs) (range_with_len 0 pages)
  pub boot : maps.boot.value.bytes ≡ found.boot

-- what the system pages of an image say: their errors, the bits of each extent, the PFS byte of each page; and page 9
pub record AreSystemMaps (g : Geometry) (maps : SystemMaps) (image : Image) : Type 0 where
  pub errors : Gathers maps.errors.items (IsSystemError g image)
  pub free : maps.free.items ≡ map (is_free g image) (range_with_len 0 (extent_count image))
  pub mixed : maps.mixed.items ≡ map (is_mixed g image) (range_with_len 0 (extent_count image))
  pub pfs : maps.pfs.items ≡ map (pfs_byte g image) (range_with_len 0 (length image))
  pub boot : maps.boot.value.bytes ≡ page image 9

-- a bit for each extent of a file of so many pages, and a byte for each page
pub record HaveSizes (pages : ℕ) (maps : SystemMaps) : Type 0 where
  pub free : vec_len maps.free ≡ pages / 8
  pub mixed : vec_len maps.mixed ≡ pages / 8
  pub pfs : vec_len maps.pfs ≡ pages

-- what is known of the system maps of a file of so many pages, whose reader may tell its image. Where they have
-- no error the catalog passes its test.
pub record AreMapsRead (g : Geometry) (pages : ℕ) (told : Option Image) (maps : SystemMaps) : Type 0 where
  pub said : IfSome told (AreSystemMaps g maps)
  pub sizes : HaveSizes pages maps
  pub boot : maps.errors.items ≡ [] → (PassesCatalog maps.boot.value.bytes → ⊥) → ⊥
