-- What a page of maps that was read tells of a view.
use Rattle.std.specs.Prelude.{◌≡◌, ℕ, ◌<◌, List, None, true}
use Rattle.spec_file.specs.declared.data.Resource.{Resource}
use Rattle.spec_file.specs.Header.{says}
use Rattle.spec_file.specs.Image.{page}
use Rattle.spec_file.specs.Roles.{is_ordinary}
use Rattle.spec_words.specs.NetChanges.{FileShape}
use Rattle.spec_words.specs.Views.{View}
use Rattle.db_locks.specs.Guards.{AgreeUnder}

-- page q says that it is a page of maps of this type, and which
abbrev pub IsMap : View → ℕ → ℕ → Type 0
IsMap view type q = says type q (page view.now q) ≡ true

-- these bytes have all that nobody else holds of page q as the view has it: of a page of maps the bits of each extent, or the
-- byte of each page, that no other transaction holds
pub record MapTells (view : View) (q : ℕ) (bytes : List ℕ) : Type 0 where
  pub agrees : (r : Resource) → view.other r ≡ None → AgreeUnder r view.shape q bytes (page view.now q)

-- a page of the file that objects may own
pub record IsOwnable (shape : FileShape) (p : ℕ) : Type 0 where
  pub inside : p < shape.pages
  pub ordinary : is_ordinary shape.geometry p ≡ true
