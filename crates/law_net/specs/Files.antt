-- The images of a file, and where two of them differ.
use Rattle.std.specs.Prelude.{◌≡◌, ◌≢◌, ℕ, ◌+◌, ◌-◌, ◌*◌, ◌<◌, ◌≤◌, true, List, length, slice_index, IsSomeAnd, ◌⊎◌}
use Rattle.std.specs.Int.{bit_at}
use Rattle.spec_file.specs.declared.data.Resource.{Resource}
use Rattle.spec_file.specs.Image.{Image, AreBytes, page, page_size, maps_start}
use Rattle.spec_file.specs.Places.{HasShape}
use Rattle.spec_log.specs.Cells.{HasWholePages}
use Rattle.spec_log.specs.Cover.{byte_guard, bit_guard}
use Rattle.spec_words.specs.NetChanges.{FileShape}
use Rattle.spec_words.specs.Takes.{is_among}

-- an image of a file of this shape: so many whole pages of bytes
pub record IsImageOf (shape : FileShape) (image : Image) : Type 0 where
  pub file : HasShape shape.geometry shape.pages
  pub pages : length image ≡ shape.pages
  pub whole : HasWholePages image
  pub bytes : (p : ℕ) → AreBytes (page image p)

-- bit j of byte i of page p has a guard that fits: one of the whole byte, or one of the bit alone, on a page of maps
abbrev pub IsGuardedBy : (Resource → Type 0) → FileShape → ℕ → ℕ → ℕ → Type 0
IsGuardedBy Fits shape p i j =
    IsSomeAnd (byte_guard shape.geometry shape.pages p i) Fits
    ⊎ ((maps_start ≤ i) × IsSomeAnd (bit_guard shape.geometry shape.pages p (8 * (i - maps_start) + j)) Fits)

-- the images of a file differ only in bits with such a guard
abbrev pub DifferOnlyAt : (Resource → Type 0) → FileShape → Image → Image → Type 0
DifferOnlyAt Fits shape start now =
    (p i j : ℕ) → p < shape.pages → i < page_size → j < 8 → bit_at (slice_index (page start p) i) j ≢ bit_at (slice_index (page now p) i) j → IsGuardedBy Fits shape p i j

-- they differ only in bits that these resources guard
abbrev pub DifferUnder : FileShape → List Resource → Image → Image → Type 0
DifferUnder shape taken start now = DifferOnlyAt (λ r. is_among taken r ≡ true) shape start now
