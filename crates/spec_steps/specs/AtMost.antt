-- Where a step changes an image at most: bits of GAM and of SGAM, PFS bytes, and whole pages.
use Rattle.std.specs.Prelude.{◌≡◌, ◌⊎◌, ℕ, ◌/◌, ◌<◌, IsTrue, length, Some}
use Rattle.spec_file.specs.declared.geometry.Geometry.{Geometry}
use Rattle.spec_file.specs.Image.{Image, page}
use Rattle.spec_file.specs.Header.{says}
use Rattle.spec_file.specs.Places.{is_free, is_mixed, extent_count}
use Rattle.spec_file.specs.Roles.{role_of, system_type, is_ordinary}
use Rattle.spec_chain.specs.Uses.{pfs_byte}

-- the extents whose GAM bit, and those whose SGAM bit may change; the pages whose PFS byte, and those whose own bytes
-- may change
pub record Changed : Type 1 where
  pub free : ℕ → Type 0
  pub mixed : ℕ → Type 0
  pub bytes : ℕ → Type 0
  pub pages : ℕ → Type 0

-- a page that statements write as a whole: page 9, or one that an object may own
abbrev pub IsWhole : Geometry → ℕ → Type 0
IsWhole g q = (q ≡ 9) ⊎ IsTrue (is_ordinary g q)

-- all else that a check reads is the same: of pages with maps the other bits and bytes and the header
pub record AtMost (g : Geometry) (changed : Changed) (image image' : Image) : Type 0 where
  pub size : length image' ≡ length image
  pub free : (e : ℕ) → e < extent_count image → (changed.free e → ⊥) → is_free g image' e ≡ is_free g image e
  pub mixed : (e : ℕ) → e < extent_count image → (changed.mixed e → ⊥) → is_mixed g image' e ≡ is_mixed g image e
  pub bytes : (p : ℕ) → p < length image → (changed.bytes p → ⊥) → pfs_byte g image' p ≡ pfs_byte g image p
  pub pages : (q : ℕ) → IsWhole g q → (changed.pages q → ⊥) → page image' q ≡ page image q
  pub system : (q type : ℕ) → q < length image → (changed.pages q → ⊥) → system_type (role_of g q) ≡ Some type
      → says type q (page image' q) ≡ says type q (page image q)

-- one bit, one byte, one page
abbrev pub free_bit : ℕ → Changed
free_bit e = record { free = λ f. f ≡ e; mixed = λ f. ⊥; bytes = λ q. ⊥; pages = λ q. ⊥ }

abbrev pub mixed_bit : ℕ → Changed
mixed_bit e = record { free = λ f. ⊥; mixed = λ f. f ≡ e; bytes = λ q. ⊥; pages = λ q. ⊥ }

abbrev pub byte_of : ℕ → Changed
byte_of p = record { free = λ f. ⊥; mixed = λ f. ⊥; bytes = λ q. q ≡ p; pages = λ q. ⊥ }

abbrev pub page_of : ℕ → Changed
page_of p = record { free = λ f. ⊥; mixed = λ f. ⊥; bytes = λ q. ⊥; pages = λ q. q ≡ p }

-- what either changes
abbrev pub either : Changed → Changed → Changed
either a b = record {
  free = λ e. a.free e ⊎ b.free e;
  mixed = λ e. a.mixed e ⊎ b.mixed e;
  bytes = λ p. a.bytes p ⊎ b.bytes p;
  pages = λ q. a.pages q ⊎ b.pages q;
}

-- the bits of a page's extent, and its PFS byte
abbrev pub maps_of : ℕ → Changed
maps_of p = either (free_bit (p / 8)) (either (mixed_bit (p / 8)) (byte_of p))
