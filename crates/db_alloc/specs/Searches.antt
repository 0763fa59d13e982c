-- What a search over the extents has read, and what it wants.
use Rattle.std.specs.Prelude.{◌≡◌, ℕ, ◌+◌, ◌/◌, ◌&&◌, not, Bool, List, Contains, Option, None, IfSome}
use Rattle.spec_file.specs.declared.page_type.TheConstants.{GAM_TYPE, SGAM_TYPE}
use Rattle.spec_file.specs.Places.{gam_place, sgam_place, pfs_page}
use Rattle.spec_words.specs.NetChanges.{FileShape}
use Rattle.spec_words.specs.Views.{View}
use Rattle.spec_alloc.specs.SinglePages.{is_shared, is_unused, spare_page, first_page_of}
use Rattle.db_alloc.specs.declared.search.Wanted.{Wanted}
use Rattle.db_alloc.specs.declared.search.Wanted.TheVariants.{Shared, Unused}
use Rattle.db_alloc.specs.declared.search.Reader.{Reader}
use Rattle.db_alloc.specs.declared.search.Maps.{Maps}
use Rattle.db_alloc.specs.Maps.{IsMap, MapTells}

-- which extents fit, and which of their pages is found
abbrev pub fits_of : Wanted → FileShape → View → ℕ → Bool
fits_of Shared shape = is_shared shape
fits_of Unused shape = is_unused shape

abbrev pub find_of : Wanted → FileShape → View → ℕ → Option ℕ
find_of Shared shape = spare_page shape
find_of Unused shape = first_page_of shape

-- the same of the two bits of an extent
abbrev pub bits_fit : Wanted → Bool → Bool → Bool
bits_fit Shared free mixed = not free && mixed
bits_fit Unused free mixed = free && not mixed

-- it reads the file of the view, under a resource that nobody else holds
pub record MayRead (reader : Reader) (view : View) : Type 0 where
  pub geometry : reader.geometry ≡ view.shape.geometry
  pub pages : reader.pages ≡ view.shape.pages
  pub own : view.other reader.own ≡ None

-- the GAM page q and the SGAM page behind it are good, and were read
pub record AreMaps (view : View) (q : ℕ) (gam sgam : List ℕ) : Type 0 where
  pub gam_good : IsMap view GAM_TYPE q
  pub sgam_good : IsMap view SGAM_TYPE (q + 1)
  pub gam_tells : MapTells view q gam
  pub sgam_tells : MapTells view (q + 1) sgam

abbrev pub AreRead : View → Maps → Type 0
AreRead view maps = IfSome maps.read (λ q. AreMaps view q.0 maps.gam.bytes maps.sgam.bytes)

-- the maps that speak of page p, and of its extent, were reached
pub record WereReached (looked : List ℕ) (shape : FileShape) (p : ℕ) : Type 0 where
  pub gam : Contains looked (gam_place shape.geometry (p / 8)).page
  pub sgam : Contains looked (sgam_place shape.geometry (p / 8)).page
  pub pfs : Contains looked (pfs_page shape.geometry p)
