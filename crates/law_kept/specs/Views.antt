-- The views on which CREATE HEAP and DROP leave a clean file clean, and SGAM exact.
use Rattle.std.specs.Prelude.{◌≡◌, ℕ, ◌/◌, ◌<◌, false, IsTrue, None}
use Rattle.spec_file.specs.declared.data.Resource.TheVariants as resource
use Rattle.spec_file.specs.Roles.{is_ordinary}
use Rattle.spec_chain.specs.Marks.{HasMarker}
use Rattle.spec_chain.specs.Uses.{is_allocated}
use Rattle.spec_words.specs.Views.{View}
use Rattle.spec_clean.specs.CleanFiles.{HasCleanMaps}
use Rattle.law_net.specs.Files.{IsImageOf}

-- the view's image is one of its file, with clean maps
pub record IsCleanView (view : View) : Type 0 where
  pub image : IsImageOf view.shape view.now
  pub maps : HasCleanMaps view.shape.geometry view.now

-- who else holds the PFS byte of a page that isn't allocated, in an extent that no object marks, holds the extent too:
-- there a page becomes allocated, or is given back, only with its extent. Where another transaction held such a byte
-- alone, a search would pass over the page, and SGAM would fall with the last page that it finds, although that page is
-- open. No rule of the check is broken then.
abbrev pub OthersHoldExtents : View → Type 0
OthersHoldExtents view =
    (p : ℕ) → p < view.shape.pages → IsTrue (is_ordinary view.shape.geometry p) → is_allocated view.shape.geometry view.now p ≡ false
    → (HasMarker view.shape.geometry view.now (p / 8) → ⊥)
    → view.other (resource.Extent (record { 0 = p / 8 })) ≡ None → view.other (resource.Byte (record { 0 = p })) ≡ None
