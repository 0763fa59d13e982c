-- No page that an object may own is a map page, nor is page 9.
use Rattle.std.proofs.Common.{◌≡◌, ◌≢◌, ◌⊎◌, ℕ, ◌*◌, ◌/◌, ◌<◌, ◌==◌, ◌||◌, Bool, true, false, if◌then◌else◌, refl, sym, ap, subst, inl, inr, arith, eq-eqb, ne_eqb}
use Rattle.std.proofs.lemmas.Bool.{cases_eq, both_ways, or_left, or_right}
use Rattle.spec_file.specs.declared.geometry.Geometry.{Geometry}
use Rattle.spec_file.specs.declared.geometry.Geometry.TheVariants.{Standard, Small}
use Rattle.spec_file.specs.Places.{interval_size, interval_of_page, gam_page, sgam_page, pfs_page, pfs_span, gam_place, sgam_place, pfs_place}
use Rattle.spec_file.specs.Roles.{is_for_objects, is_ordinary, is_system_extent, is_system_place, is_pfs_page, is_gam_page, is_sgam_page}
use Rattle.law_extents.proofs.GoodKinds.{role_by}

place_not : (header pfs gam sgam boot system : Bool) → (pfs || gam || sgam) ≡ true → is_for_objects (role_by header pfs gam sgam boot system) ≡ false
place_not true pfs gam sgam boot system is = refl
place_not false true gam sgam boot system is = refl
place_not false false true sgam boot system is = refl
place_not false false false true boot system is = refl
place_not false false false false boot system is = absurd (cc)

pub system_not : (g : Geometry) (q : ℕ) → is_system_place g q ≡ true → is_ordinary g q ≡ false
system_not g q is = place_not (q == 0) (is_pfs_page g q) (is_gam_page g q) (is_sgam_page g q) (q == 9) (is_system_extent g (q / 8)) is

abbrev pub first_or : ℕ → ℕ → ℕ → ℕ
first_or first size k = if k == 0 then first else size * k

pub first_cases : (first size k : ℕ) → ((k ≡ 0) × (first_or first size k ≡ first)) ⊎ ((0 < k) × (first_or first size k ≡ size * k))
first_cases first size k = elim (cases_eq k 0) [
  | inl here ↦ inl (here, rw (eq-eqb k 0 here) refl)
  | inr other ↦ inr (omega arith, rw (ne_eqb k 0 other) refl)
]

gam_interval : (g : Geometry) (m : ℕ) → interval_of_page g (gam_page g m) ≡ m
gam_interval Standard m = elim (first_cases 2 511232 m) [ inl a ↦ omega arith | inr a ↦ omega arith ]
gam_interval Small m = elim (first_cases 2 512 m) [ inl a ↦ omega arith | inr a ↦ omega arith ]

sgam_interval : (g : Geometry) (m : ℕ) → interval_of_page g (sgam_page g m) ≡ m
sgam_interval Standard m = elim (first_cases 2 511232 m) [ inl a ↦ omega arith | inr a ↦ omega arith ]
sgam_interval Small m = elim (first_cases 2 512 m) [ inl a ↦ omega arith | inr a ↦ omega arith ]

pfs_itself : (g : Geometry) (p : ℕ) → pfs_page g p / pfs_span g ≡ p / pfs_span g
pfs_itself Standard p = elim (first_cases 1 8088 (p / 8088)) [ inl a ↦ omega arith | inr a ↦ omega arith ]
pfs_itself Small p = elim (first_cases 1 88 (p / 88)) [ inl a ↦ omega arith | inr a ↦ omega arith ]

pub gam_not : (g : Geometry) (e : ℕ) → is_ordinary g (gam_place g e).page ≡ false
gam_not g e =
    let q = (gam_place g e).page in
    let is : is_gam_page g q ≡ true = eq-eqb q (gam_page g (interval_of_page g q)) (ap (gam_page g) (sym (gam_interval g (e / interval_size g)))) in
    system_not g q (or_left (is_pfs_page g q || is_gam_page g q) (is_sgam_page g q) (or_right (is_pfs_page g q) (is_gam_page g q) is))

pub sgam_not : (g : Geometry) (e : ℕ) → is_ordinary g (sgam_place g e).page ≡ false
sgam_not g e =
    let q = (sgam_place g e).page in
    let is : is_sgam_page g q ≡ true = eq-eqb q (sgam_page g (interval_of_page g q)) (ap (sgam_page g) (sym (sgam_interval g (e / interval_size g)))) in
    system_not g q (or_right (is_pfs_page g q || is_gam_page g q) (is_sgam_page g q) is)

pub pfs_not : (g : Geometry) (p : ℕ) → is_ordinary g (pfs_place g p).page ≡ false
pfs_not g p =
    let q = (pfs_place g p).page in
    let is : is_pfs_page g q ≡ true = eq-eqb q (pfs_page g q) (ap (first_or 1 (pfs_span g)) (sym (pfs_itself g p))) in
    system_not g q (or_left (is_pfs_page g q || is_gam_page g q) (is_sgam_page g q) (or_left (is_pfs_page g q) (is_gam_page g q) is))

pub boot_not : (g : Geometry) → is_ordinary g 9 ≡ false
boot_not Standard = refl
boot_not Small = refl

-- page 9 is no map page
pub gam_boot : (g : Geometry) (e : ℕ) → (gam_place g e).page ≢ 9
gam_boot Standard e same = elim (first_cases 2 511232 (e / 63904)) [ inl a ↦ omega arith | inr a ↦ omega arith ]
gam_boot Small e same = elim (first_cases 2 512 (e / 64)) [ inl a ↦ omega arith | inr a ↦ omega arith ]

pub sgam_boot : (g : Geometry) (e : ℕ) → (sgam_place g e).page ≢ 9
sgam_boot Standard e same = elim (first_cases 2 511232 (e / 63904)) [ inl a ↦ omega arith | inr a ↦ omega arith ]
sgam_boot Small e same = elim (first_cases 2 512 (e / 64)) [ inl a ↦ omega arith | inr a ↦ omega arith ]

pub pfs_boot : (g : Geometry) (p : ℕ) → (pfs_place g p).page ≢ 9
pfs_boot Standard p same = elim (first_cases 1 8088 (p / 8088)) [ inl a ↦ omega arith | inr a ↦ omega arith ]
pfs_boot Small p same = elim (first_cases 1 88 (p / 88)) [ inl a ↦ omega arith | inr a ↦ omega arith ]

pub differs : (g : Geometry) (p q : ℕ) → is_ordinary g p ≡ true → is_ordinary g q ≡ false → p ≢ q
differs g p q own other same = both_ways (is_ordinary g q) other (subst (λ r. is_ordinary g r ≡ true) same own)
