-- No two map bits and PFS bytes of a file share a place: two GAM bits stand apart, two SGAM bits and two
-- PFS bytes too, and no page is of two kinds. It holds below the limit of each geometry, since there no
-- beginning of an interval but the first is a beginning of a PFS span.
use Rattle.std.specs.Prelude.{◌≡◌, ◌≢◌, ℕ, ◌+◌, ◌*◌, ◌/◌, ◌%◌, ◌<◌, ◌==◌, if◌then◌else◌, ◌⊎◌}
use Rattle.std.proofs.Common.{refl, arith, inl, inr, ap, eq-eqb}
use Rattle.std.proofs.lemmas.Bool.{cases_eq, ne_eqb}
use Rattle.spec_file.specs.declared.geometry.Geometry.{Geometry}
use Rattle.spec_file.specs.declared.geometry.Geometry.TheVariants.{Standard, Small}
use Rattle.spec_file.specs.Places.{Place, gam_place, sgam_place, pfs_place}
use Rattle.spec_file.specs.PlacesLaws.{PlacesApart}

-- the first of a row of pages stands elsewhere
abbrev page_of : ℕ → ℕ → ℕ → ℕ
page_of first size k = if k == 0 then first else size * k

page_cases : (first size k : ℕ) → ((k ≡ 0) × (page_of first size k ≡ first)) ⊎ ((0 < k) × (page_of first size k ≡ size * k))
page_cases first size k = elim (cases_eq k 0) [
  | inl here ↦ inl (here, rw (eq-eqb k 0 here) refl)
  | inr other ↦ inr (omega arith, rw (ne_eqb k 0 other) refl)
]

small_gam : (e f : ℕ) → 8 * e < 4096 → 8 * f < 4096 → gam_place Small e ≡ gam_place Small f → e ≡ f
small_gam e f within within_too same =
    let pages : page_of 2 512 (e / 64) ≡ page_of 2 512 (f / 64) = ap (λ (p : Place). p.page) same in
    let bits : e % 64 ≡ f % 64 = ap (λ (p : Place). p.at) same in
    elim (page_cases 2 512 (e / 64)) [
      | inl a ↦ elim (page_cases 2 512 (f / 64)) [ inl b ↦ omega arith | inr b ↦ omega arith ]
      | inr a ↦ elim (page_cases 2 512 (f / 64)) [ inl b ↦ omega arith | inr b ↦ omega arith ]
    ]

small_sgam : (e f : ℕ) → 8 * e < 4096 → 8 * f < 4096 → sgam_place Small e ≡ sgam_place Small f → e ≡ f
small_sgam e f within within_too same =
    let pages : page_of 2 512 (e / 64) + 1 ≡ page_of 2 512 (f / 64) + 1 = ap (λ (p : Place). p.page) same in
    let bits : e % 64 ≡ f % 64 = ap (λ (p : Place). p.at) same in
    elim (page_cases 2 512 (e / 64)) [
      | inl a ↦ elim (page_cases 2 512 (f / 64)) [ inl b ↦ omega arith | inr b ↦ omega arith ]
      | inr a ↦ elim (page_cases 2 512 (f / 64)) [ inl b ↦ omega arith | inr b ↦ omega arith ]
    ]

small_pfs : (p q : ℕ) → p < 4096 → q < 4096 → pfs_place Small p ≡ pfs_place Small q → p ≡ q
small_pfs p q within within_too same =
    let pages : page_of 1 88 (p / 88) ≡ page_of 1 88 (q / 88) = ap (λ (p : Place). p.page) same in
    let bytes : 96 + p % 88 ≡ 96 + q % 88 = ap (λ (p : Place). p.at) same in
    elim (page_cases 1 88 (p / 88)) [
      | inl a ↦ elim (page_cases 1 88 (q / 88)) [ inl b ↦ omega arith | inr b ↦ omega arith ]
      | inr a ↦ elim (page_cases 1 88 (q / 88)) [ inl b ↦ omega arith | inr b ↦ omega arith ]
    ]

small_gam_sgam : (e f : ℕ) → 8 * e < 4096 → 8 * f < 4096 → page_of 2 512 (e / 64) ≢ page_of 2 512 (f / 64) + 1
small_gam_sgam e f within within_too same =
    elim (page_cases 2 512 (e / 64)) [
      | inl a ↦ elim (page_cases 2 512 (f / 64)) [ inl b ↦ omega arith | inr b ↦ omega arith ]
      | inr a ↦ elim (page_cases 2 512 (f / 64)) [ inl b ↦ omega arith | inr b ↦ omega arith ]
    ]

small_gam_pfs : (e p : ℕ) → 8 * e < 4096 → p < 4096 → page_of 2 512 (e / 64) ≢ page_of 1 88 (p / 88)
small_gam_pfs e p within within_too same =
    elim (page_cases 2 512 (e / 64)) [
      | inl a ↦ elim (page_cases 1 88 (p / 88)) [ inl b ↦ omega arith | inr b ↦ omega arith ]
      | inr a ↦ elim (page_cases 1 88 (p / 88)) [ inl b ↦ omega arith | inr b ↦ omega arith ]
    ]

small_sgam_pfs : (e p : ℕ) → 8 * e < 4096 → p < 4096 → page_of 2 512 (e / 64) + 1 ≢ page_of 1 88 (p / 88)
small_sgam_pfs e p within within_too same =
    elim (page_cases 2 512 (e / 64)) [
      | inl a ↦ elim (page_cases 1 88 (p / 88)) [ inl b ↦ omega arith | inr b ↦ omega arith ]
      | inr a ↦ elim (page_cases 1 88 (p / 88)) [ inl b ↦ omega arith | inr b ↦ omega arith ]
    ]

standard_gam : (e f : ℕ) → 8 * e < 524288 → 8 * f < 524288 → gam_place Standard e ≡ gam_place Standard f → e ≡ f
standard_gam e f within within_too same =
    let pages : page_of 2 511232 (e / 63904) ≡ page_of 2 511232 (f / 63904) = ap (λ (p : Place). p.page) same in
    let bits : e % 63904 ≡ f % 63904 = ap (λ (p : Place). p.at) same in
    elim (page_cases 2 511232 (e / 63904)) [
      | inl a ↦ elim (page_cases 2 511232 (f / 63904)) [ inl b ↦ omega arith | inr b ↦ omega arith ]
      | inr a ↦ elim (page_cases 2 511232 (f / 63904)) [ inl b ↦ omega arith | inr b ↦ omega arith ]
    ]

standard_sgam : (e f : ℕ) → 8 * e < 524288 → 8 * f < 524288 → sgam_place Standard e ≡ sgam_place Standard f → e ≡ f
standard_sgam e f within within_too same =
    let pages : page_of 2 511232 (e / 63904) + 1 ≡ page_of 2 511232 (f / 63904) + 1 = ap (λ (p : Place). p.page) same in
    let bits : e % 63904 ≡ f % 63904 = ap (λ (p : Place). p.at) same in
    elim (page_cases 2 511232 (e / 63904)) [
      | inl a ↦ elim (page_cases 2 511232 (f / 63904)) [ inl b ↦ omega arith | inr b ↦ omega arith ]
      | inr a ↦ elim (page_cases 2 511232 (f / 63904)) [ inl b ↦ omega arith | inr b ↦ omega arith ]
    ]

standard_pfs : (p q : ℕ) → p < 524288 → q < 524288 → pfs_place Standard p ≡ pfs_place Standard q → p ≡ q
standard_pfs p q within within_too same =
    let pages : page_of 1 8088 (p / 8088) ≡ page_of 1 8088 (q / 8088) = ap (λ (p : Place). p.page) same in
    let bytes : 96 + p % 8088 ≡ 96 + q % 8088 = ap (λ (p : Place). p.at) same in
    elim (page_cases 1 8088 (p / 8088)) [
      | inl a ↦ elim (page_cases 1 8088 (q / 8088)) [ inl b ↦ omega arith | inr b ↦ omega arith ]
      | inr a ↦ elim (page_cases 1 8088 (q / 8088)) [ inl b ↦ omega arith | inr b ↦ omega arith ]
    ]

standard_gam_sgam : (e f : ℕ) → 8 * e < 524288 → 8 * f < 524288 → page_of 2 511232 (e / 63904) ≢ page_of 2 511232 (f / 63904) + 1
standard_gam_sgam e f within within_too same =
    elim (page_cases 2 511232 (e / 63904)) [
      | inl a ↦ elim (page_cases 2 511232 (f / 63904)) [ inl b ↦ omega arith | inr b ↦ omega arith ]
      | inr a ↦ elim (page_cases 2 511232 (f / 63904)) [ inl b ↦ omega arith | inr b ↦ omega arith ]
    ]

standard_gam_pfs : (e p : ℕ) → 8 * e < 524288 → p < 524288 → page_of 2 511232 (e / 63904) ≢ page_of 1 8088 (p / 8088)
standard_gam_pfs e p within within_too same =
    elim (page_cases 2 511232 (e / 63904)) [
      | inl a ↦ elim (page_cases 1 8088 (p / 8088)) [ inl b ↦ omega arith | inr b ↦ omega arith ]
      | inr a ↦ elim (page_cases 1 8088 (p / 8088)) [ inl b ↦ omega arith | inr b ↦ omega arith ]
    ]

standard_sgam_pfs : (e p : ℕ) → 8 * e < 524288 → p < 524288 → page_of 2 511232 (e / 63904) + 1 ≢ page_of 1 8088 (p / 8088)
standard_sgam_pfs e p within within_too same =
    elim (page_cases 2 511232 (e / 63904)) [
      | inl a ↦ elim (page_cases 1 8088 (p / 8088)) [ inl b ↦ omega arith | inr b ↦ omega arith ]
      | inr a ↦ elim (page_cases 1 8088 (p / 8088)) [ inl b ↦ omega arith | inr b ↦ omega arith ]
    ]

pub places_apart : (g : Geometry) → PlacesApart g
places_apart Standard = record {
  gam = standard_gam;
  sgam = standard_sgam;
  pfs = standard_pfs;
  gam_sgam = standard_gam_sgam;
  gam_pfs = standard_gam_pfs;
  sgam_pfs = standard_sgam_pfs;
}
places_apart Small = record {
  gam = small_gam;
  sgam = small_sgam;
  pfs = small_pfs;
  gam_sgam = small_gam_sgam;
  gam_pfs = small_gam_pfs;
  sgam_pfs = small_sgam_pfs;
}
