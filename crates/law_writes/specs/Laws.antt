-- Single writes: each changes at most its own place, and the cells that a log's changes put are such writes.
use Rattle.std.specs.Prelude.{◌≡◌, ◌≢◌, ℕ, ◌/◌, ◌<◌, Bool, true, false, IsTrue, List, [], ◌∷◌, length}
use Rattle.spec_file.specs.declared.geometry.Geometry.{Geometry}
use Rattle.spec_file.specs.Image.{Image, page}
use Rattle.spec_file.specs.Places.{Place, is_free, is_mixed, gam_place, sgam_place, pfs_place, extent_count, HasShape}
use Rattle.spec_file.specs.Roles.{is_ordinary}
use Rattle.spec_chain.specs.Uses.{pfs_byte}
use Rattle.spec_log.specs.declared.item.Cell.{Cell}
use Rattle.spec_log.specs.declared.item.Cell.TheVariants.{Bytes, Bit}
use Rattle.spec_log.specs.Cells.{HasWholePages, with_bytes, put}
use Rattle.spec_steps.specs.AtMost.{IsWhole, AtMost, free_bit, mixed_bit, byte_of, page_of, either, maps_of}
use Rattle.spec_steps.specs.Writes.{SetsFree, SetsMixed, SetsByte, SetsPage, Single, WritesSingle}

-- in an image with a file's shape a GAM bit that is set changes at most that bit
abbrev pub FreeChangesOne : Type 0
FreeChangesOne = (g : Geometry) (image image' : Image) (e : ℕ) (value : Bool) → HasShape g (length image) → e < extent_count image
    → SetsFree g e value image image' → AtMost g (free_bit e) image image' × (is_free g image' e ≡ value)

-- so an SGAM bit
abbrev pub MixedChangesOne : Type 0
MixedChangesOne = (g : Geometry) (image image' : Image) (e : ℕ) (value : Bool) → HasShape g (length image) → e < extent_count image
    → SetsMixed g e value image image' → AtMost g (mixed_bit e) image image' × (is_mixed g image' e ≡ value)

-- a PFS byte
abbrev pub ByteChangesOne : Type 0
ByteChangesOne = (g : Geometry) (image image' : Image) (p value : ℕ) → HasShape g (length image) → p < length image
    → SetsByte g p value image image' → AtMost g (byte_of p) image image' × (pfs_byte g image' p ≡ value)

-- and a page that statements write as a whole
abbrev pub PageChangesOne : Type 0
PageChangesOne = (g : Geometry) (image image' : Image) (p : ℕ) (new : List ℕ) → HasShape g (length image) → p < length image → IsWhole g p
    → SetsPage p new image image' → AtMost g (page_of p) image image' × (page image' p ≡ new)

-- what a step on a single page has written stands there, and nothing else changes
pub record HasWritten (g : Geometry) (p q : ℕ) (single : Single) (image image' : Image) : Type 0 where
  pub most : AtMost g (either (maps_of p) (either (page_of p) (page_of q))) image image'
  pub free : is_free g image' (p / 8) ≡ single.free
  pub mixed : is_mixed g image' (p / 8) ≡ single.mixed
  pub byte : pfs_byte g image' p ≡ single.byte
  pub own : page image' p ≡ single.own
  pub other : page image' q ≡ single.other

-- so words one after another change at most what either does
abbrev pub WritesChangeTheirs : Type 0
WritesChangeTheirs = (g : Geometry) (image image' : Image) (p q : ℕ) (single : Single) → HasShape g (length image)
    → p < length image → IsTrue (is_ordinary g p) → q < length image → IsWhole g q → p ≢ q
    → WritesSingle g p q single image image' → HasWritten g p q single image image'

-- the cell of a bit, and that of a byte
abbrev pub bit_cell : Place → Cell
bit_cell place = Bit (record { 0 = place.page }) place.at

abbrev pub byte_cell : Place → Cell
byte_cell place = Bytes (record { 0 = place.page }) place.at

-- what a bit is in a log
abbrev pub bit_number : Bool → ℕ
bit_number true = 1
bit_number false = 0

-- in an image of whole pages the bit that is put there is set
abbrev pub PutSetsFree : Type 0
PutSetsFree = (g : Geometry) (image : Image) (e : ℕ) (value : Bool) → HasShape g (length image) → HasWholePages image → e < extent_count image
    → SetsFree g e value image (put image (bit_cell (gam_place g e)) (bit_number value ∷ []))

abbrev pub PutSetsMixed : Type 0
PutSetsMixed = (g : Geometry) (image : Image) (e : ℕ) (value : Bool) → HasShape g (length image) → HasWholePages image → e < extent_count image
    → SetsMixed g e value image (put image (bit_cell (sgam_place g e)) (bit_number value ∷ []))

-- so is a byte of a PFS page
abbrev pub PutSetsByte : Type 0
PutSetsByte = (g : Geometry) (image : Image) (p value : ℕ) → HasShape g (length image) → HasWholePages image → p < length image
    → SetsByte g p value image (put image (byte_cell (pfs_place g p)) (value ∷ []))

-- and bytes that are put into a page give the page with them
abbrev pub PutSetsPage : Type 0
PutSetsPage = (image : Image) (p at : ℕ) (bytes : List ℕ)
    → SetsPage p (with_bytes (page image p) at bytes) image (put image (Bytes (record { 0 = p }) at) bytes)
