-- No two map bits and PFS bytes of a file share a place: two GAM bits stand apart, two SGAM bits and two
-- PFS bytes too, and no page is of two kinds. It holds below the limit of each geometry, since there no
-- beginning of an interval but the first is a beginning of a PFS span.
use Rattle.std.specs.Prelude.{◌≡◌, ◌≢◌, ℕ, ◌*◌, ◌<◌}
use Rattle.spec_file.specs.declared.geometry.Geometry.{Geometry}
use Rattle.spec_file.specs.Places.{page_limit, gam_place, sgam_place, pfs_place}

pub record PlacesApart (g : Geometry) : Type 0 where
  pub gam : (e f : ℕ) → 8 * e < page_limit g → 8 * f < page_limit g → gam_place g e ≡ gam_place g f → e ≡ f
  pub sgam : (e f : ℕ) → 8 * e < page_limit g → 8 * f < page_limit g → sgam_place g e ≡ sgam_place g f → e ≡ f
  pub pfs : (p q : ℕ) → p < page_limit g → q < page_limit g → pfs_place g p ≡ pfs_place g q → p ≡ q
  pub gam_sgam : (e f : ℕ) → 8 * e < page_limit g → 8 * f < page_limit g → (gam_place g e).page ≢ (sgam_place g f).page
  pub gam_pfs : (e p : ℕ) → 8 * e < page_limit g → p < page_limit g → (gam_place g e).page ≢ (pfs_place g p).page
  pub sgam_pfs : (e p : ℕ) → 8 * e < page_limit g → p < page_limit g → (sgam_place g e).page ≢ (pfs_place g p).page
