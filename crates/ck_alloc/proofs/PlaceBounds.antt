-- The system places of a file stand inside it.
use Rattle.std.proofs.Common.{◌≡◌, ◌⊎◌, ℕ, ◌*◌, ◌/◌, ◌<◌, ◌≤◌, ◌==◌, if◌then◌else◌, arith, refl, inl, inr, eq-eqb}
use Rattle.std.proofs.lemmas.Bool.{cases_eq, ne_eqb}
use Rattle.spec_file.specs.declared.geometry.Geometry.{Geometry}
use Rattle.spec_file.specs.declared.geometry.Geometry.TheVariants.{Standard, Small}
use Rattle.spec_file.specs.Places.{page_limit, interval_size, HasShape}
use Rattle.ck_alloc.specs.declared.places.SystemKind.{SystemKind}
use Rattle.ck_alloc.specs.declared.places.SystemKind.TheVariants.{Pfs, Gam, Sgam}
use Rattle.ck_alloc.specs.SystemPlaces.{span_of, place_of, place_count}

-- the first of a row of pages stands elsewhere
abbrev row_of : ℕ → ℕ → ℕ → ℕ
row_of first size k = if k == 0 then first else size * k

row_cases : (first size k : ℕ) → ((k ≡ 0) × (row_of first size k ≡ first)) ⊎ ((0 < k) × (row_of first size k ≡ size * k))
row_cases first size k = elim (cases_eq k 0) [
  | inl here ↦ inl (here, rw (eq-eqb k 0 here) refl)
  | inr other ↦ inr (omega arith, rw (ne_eqb k 0 other) refl)
]

pub span_inside : (kind : SystemKind) (g : Geometry) (pages k : ℕ) → HasShape g pages → k < place_count kind g pages
    → span_of kind g * k < pages
span_inside Pfs Standard pages k shape below = omega (arith, below)
span_inside Pfs Small pages k shape below = omega (arith, below)
span_inside Gam Standard pages k shape below = omega (arith, below)
span_inside Gam Small pages k shape below = omega (arith, below)
span_inside Sgam Standard pages k shape below = omega (arith, below)
span_inside Sgam Small pages k shape below = omega (arith, below)

pub place_inside : (kind : SystemKind) (g : Geometry) (pages k : ℕ) → HasShape g pages → k < place_count kind g pages
    → place_of kind g k < pages
place_inside Pfs Standard pages k shape below =
    let inside = span_inside Pfs Standard pages k shape below in
    elim (row_cases 1 8088 k) [ inl a ↦ omega arith | inr a ↦ omega arith ]
place_inside Pfs Small pages k shape below =
    let inside = span_inside Pfs Small pages k shape below in
    elim (row_cases 1 88 k) [ inl a ↦ omega arith | inr a ↦ omega arith ]
place_inside Gam Standard pages k shape below =
    let inside = span_inside Gam Standard pages k shape below in
    elim (row_cases 2 511232 k) [ inl a ↦ omega arith | inr a ↦ omega arith ]
place_inside Gam Small pages k shape below =
    let inside = span_inside Gam Small pages k shape below in
    elim (row_cases 2 512 k) [ inl a ↦ omega arith | inr a ↦ omega arith ]
place_inside Sgam Standard pages k shape below =
    let inside = span_inside Sgam Standard pages k shape below in
    elim (row_cases 2 511232 k) [ inl a ↦ omega arith | inr a ↦ omega arith ]
place_inside Sgam Small pages k shape below =
    let inside = span_inside Sgam Small pages k shape below in
    elim (row_cases 2 512 k) [ inl a ↦ omega arith | inr a ↦ omega arith ]

pub span_below_limit : (kind : SystemKind) (g : Geometry) (pages k : ℕ) → HasShape g pages → k < place_count kind g pages
    → span_of kind g * k < page_limit g
span_below_limit kind g pages k shape below =
    let inside : span_of kind g * k < pages = span_inside kind g pages k shape below in
    let high : pages ≤ page_limit g = shape.high in
    omega (arith, inside, high)

-- the maps of each extent of the file are among them, and the PFS byte of each page
pub interval_read : (g : Geometry) (pages e : ℕ) → HasShape g pages → e < pages / 8 → e / interval_size g < place_count Gam g pages
interval_read Standard pages e shape below = omega (arith, below)
interval_read Small pages e shape below = omega (arith, below)

pub span_read : (kind : SystemKind) (g : Geometry) (pages p : ℕ) → HasShape g pages → p < pages → p / span_of kind g < place_count kind g pages
span_read Pfs Standard pages p shape below = omega (arith, below)
span_read Pfs Small pages p shape below = omega (arith, below)
span_read Gam Standard pages p shape below = omega (arith, below)
span_read Gam Small pages p shape below = omega (arith, below)
span_read Sgam Standard pages p shape below = omega (arith, below)
span_read Sgam Small pages p shape below = omega (arith, below)
