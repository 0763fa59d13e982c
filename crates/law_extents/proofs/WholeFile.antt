-- In a file of whole extents no error of extents and pages stands exactly where each extent is good.
use Rattle.std.proofs.Common.{◌≡◌, ◌⊎◌, ℕ, ◌*◌, ◌/◌, ◌%◌, ◌<◌, length, refl, ap, inl, inr, ⊎_elim, arith}
use Rattle.spec_file.specs.declared.geometry.Geometry.{Geometry}
use Rattle.spec_file.specs.Image.{Image}
use Rattle.spec_file.specs.Places.{extent_count}
use Rattle.spec_check.specs.declared.report.CheckError.{CheckError}
use Rattle.spec_check.specs.Allocation.{IsExtentError, IsUseError}
use Rattle.spec_extents.specs.Extents.{extent_of, IsGoodExtent, AreGoodExtents}
use Rattle.law_extents.specs.Laws.{ExtentsAreAll}
use Rattle.law_extents.proofs.Locality.{extent_is_local}

-- each error names a page of an extent of the file
first_inside : (x : CheckError) (e n : ℕ) → x.page ≡ 8 * e → e < n → x.page / 8 < n
first_inside x e n is inside = omega (arith, is, inside)

page_inside : (x : CheckError) (p n : ℕ) → x.page ≡ p → p < n → n % 8 ≡ 0 → x.page / 8 < n / 8
page_inside x p n is inside whole = omega (arith, is, inside, whole)

extent_inside : (g : Geometry) (image : Image) (x : CheckError) → IsExtentError g image x → x.page / 8 < extent_count image
extent_inside g image x (inl (e, inside, _, _, is)) = first_inside x e (extent_count image) (ap (λ (y : CheckError). y.page) is) inside
extent_inside g image x (inr (inl (e, inside, _, _, (_, _, _, _, is)))) = first_inside x e (extent_count image) (ap (λ (y : CheckError). y.page) is) inside
extent_inside g image x (inr (inr (inl (e, inside, _, is)))) = first_inside x e (extent_count image) (ap (λ (y : CheckError). y.page) is) inside
extent_inside g image x (inr (inr (inr (e, inside, _, _, _, _, _, is)))) = first_inside x e (extent_count image) (ap (λ (y : CheckError). y.page) is) inside

error_inside : (g : Geometry) (image : Image) (x : CheckError) → length image % 8 ≡ 0 → IsUseError g image x → x.page / 8 < extent_count image
error_inside g image x whole (inl (p, inside, _, _, _, is)) = page_inside x p (length image) (ap (λ (y : CheckError). y.page) is) inside whole
error_inside g image x whole (inr (inl (p, inside, _, _, (_, _, _, _, is)))) = page_inside x p (length image) (ap (λ (y : CheckError). y.page) is) inside whole
error_inside g image x whole (inr (inr (inl (p, inside, _, _, _, _, is)))) = page_inside x p (length image) (ap (λ (y : CheckError). y.page) is) inside whole
error_inside g image x whole (inr (inr (inr (p, inside, _, _, _, _, _, is)))) = page_inside x p (length image) (ap (λ (y : CheckError). y.page) is) inside whole

-- no extent of the file can be shown bad: as much as there need be shown, since an error is a contradiction
abbrev pub NoneIsBad : Geometry → Image → Type 0
NoneIsBad g image = (e : ℕ) → e < extent_count image → (IsGoodExtent g e (extent_of g image e) → ⊥) → ⊥

pub no_error_unless : (g : Geometry) (image : Image) → length image % 8 ≡ 0 → NoneIsBad g image → (x : CheckError) → IsExtentError g image x ⊎ IsUseError g image x → ⊥
no_error_unless g image whole good x stands =
    let inside : x.page / 8 < extent_count image = ⊎_elim (extent_inside g image x) (error_inside g image x whole) stands in
    good (x.page / 8) inside (λ is. (extent_is_local g image (x.page / 8) inside).1 is x stands refl)

pub no_error_from : (g : Geometry) (image : Image) → length image % 8 ≡ 0 → AreGoodExtents g image → (x : CheckError) → IsExtentError g image x ⊎ IsUseError g image x → ⊥
no_error_from g image whole good = no_error_unless g image whole (λ e inside bad. bad (good e inside))

pub good_from : (g : Geometry) (image : Image) → ((x : CheckError) → IsExtentError g image x ⊎ IsUseError g image x → ⊥) → AreGoodExtents g image
good_from g image none e inside = (extent_is_local g image e inside).0 (λ x stands at. none x stands)

pub extents_are_all : ExtentsAreAll
extents_are_all g image whole = (good_from g image, no_error_from g image whole)
