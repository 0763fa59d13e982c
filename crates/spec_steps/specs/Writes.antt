-- A single write: a bit of GAM or SGAM, a PFS byte, a page.
use Rattle.std.specs.Prelude.{◌≡◌, ◌≢◌, ℕ, ◌/◌, Bool, List, slice_index, slice_set}
use Rattle.spec_file.specs.declared.geometry.Geometry.{Geometry}
use Rattle.spec_file.specs.Image.{Image, page, bit}
use Rattle.spec_file.specs.Header.{says}
use Rattle.spec_file.specs.Places.{gam_place, sgam_place, pfs_place}

-- the page says the same of its type and number
abbrev pub SaysSame : List ℕ → List ℕ → Type 0
SaysSame old new = (type p : ℕ) → says type p new ≡ says type p old

-- bit n of a map page is the value, the others stay
pub record IsBitSet (n : ℕ) (value : Bool) (old new : List ℕ) : Type 0 where
  pub here : bit new n ≡ value
  pub others : (m : ℕ) → m ≢ n → bit new m ≡ bit old m
  pub header : SaysSame old new

-- the byte at an offset of a PFS page is the value, the others stay
pub record IsByteSet (at value : ℕ) (old new : List ℕ) : Type 0 where
  pub here : slice_index new at ≡ value
  pub others : (i : ℕ) → i ≢ at → slice_index new i ≡ slice_index old i
  pub header : SaysSame old new

-- the GAM bit of an extent is set
pub record SetsFree (g : Geometry) (e : ℕ) (value : Bool) (image image' : Image) : Type 0 where
  pub new : List ℕ
  pub bit : IsBitSet (gam_place g e).at value (page image (gam_place g e).page) new
  pub is : image' ≡ slice_set image (gam_place g e).page new

-- its SGAM bit is set
pub record SetsMixed (g : Geometry) (e : ℕ) (value : Bool) (image image' : Image) : Type 0 where
  pub new : List ℕ
  pub bit : IsBitSet (sgam_place g e).at value (page image (sgam_place g e).page) new
  pub is : image' ≡ slice_set image (sgam_place g e).page new

-- the PFS byte of a page is set
pub record SetsByte (g : Geometry) (p value : ℕ) (image image' : Image) : Type 0 where
  pub new : List ℕ
  pub byte : IsByteSet (pfs_place g p).at value (page image (pfs_place g p).page) new
  pub is : image' ≡ slice_set image (pfs_place g p).page new

-- a page is another one
pub record SetsPage (p : ℕ) (new : List ℕ) (image image' : Image) : Type 0 where
  pub is : image' ≡ slice_set image p new

-- what a step on a single page writes
pub record Single : Type 0 where
  pub free : Bool
  pub mixed : Bool
  pub byte : ℕ
  pub own : List ℕ
  pub other : List ℕ

-- one word after another: the two bits of the extent of page p, its PFS byte, the page itself, and another page q, such
-- as the IAM page that gets p or page 9
pub record WritesSingle (g : Geometry) (p q : ℕ) (single : Single) (image image' : Image) : Type 0 where
  pub after_free : Image
  pub after_mixed : Image
  pub after_byte : Image
  pub after_own : Image
  pub free : SetsFree g (p / 8) single.free image after_free
  pub mixed : SetsMixed g (p / 8) single.mixed after_free after_mixed
  pub byte : SetsByte g p single.byte after_mixed after_byte
  pub own : SetsPage p single.own after_byte after_own
  pub other : SetsPage q single.other after_own image'
