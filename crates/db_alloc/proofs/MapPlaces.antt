-- Where the maps of a file stand: each page of maps is one of its kind, inside the file, and shows its header to any look.
use Rattle.std.proofs.Common.{◌≡◌, ℕ, ◌+◌, ◌*◌, ◌/◌, ◌%◌, ◌^◌, ◌<◌, ◌≤◌, eqb, true, IsTrue, sym, ap, arith}
use Rattle.std.specs.Prelude.{◌||◌, if◌then◌else◌}
use Rattle.std.proofs.lemmas.Bool.{cond_both, or_left, or_right, eq-eqb}
use Rattle.std.proofs.lemmas.Bool.Decides.{nat_tests}
use Rattle.spec_file.specs.declared.data.Resource.{Resource}
use Rattle.spec_file.specs.declared.geometry.Geometry.{Geometry}
use Rattle.spec_file.specs.declared.geometry.Geometry.TheVariants.{Standard, Small}
use Rattle.spec_file.specs.declared.sizes.TheConstants.{BIT_COUNT}
use Rattle.spec_file.specs.Places.{HasShape, gam_page, sgam_page, gam_place, sgam_place, pfs_page, interval_of_page, interval_size, page_limit}
use Rattle.spec_file.specs.Roles.{is_system_place, is_pfs_page, is_gam_page, is_sgam_page}
use Rattle.db_locks.specs.Guards.{tells_header, is_of_page}
use Rattle.db_alloc.proofs.Pfs.{pfs_again}

-- ---- the pages of maps are what they are

gam_interval : (g : Geometry) (m : ℕ) → interval_of_page g (gam_page g m) ≡ m
gam_interval Standard m = cond_both (eqb m 0) 2 (8 * 63904 * m) (λ q. q / (8 * 63904) ≡ m) (λ e. grind (arith, nat_tests, e)) (λ e. omega arith)
gam_interval Small m = cond_both (eqb m 0) 2 (8 * 64 * m) (λ q. q / (8 * 64) ≡ m) (λ e. grind (arith, nat_tests, e)) (λ e. omega arith)

sgam_interval : (g : Geometry) (m : ℕ) → interval_of_page g (sgam_page g m) ≡ m
sgam_interval Standard m = cond_both (eqb m 0) 2 (8 * 63904 * m) (λ q. (q + 1) / (8 * 63904) ≡ m) (λ e. grind (arith, nat_tests, e)) (λ e. omega arith)
sgam_interval Small m = cond_both (eqb m 0) 2 (8 * 64 * m) (λ q. (q + 1) / (8 * 64) ≡ m) (λ e. grind (arith, nat_tests, e)) (λ e. omega arith)

pub gam_system : (g : Geometry) (e : ℕ) → is_system_place g (gam_place g e).page ≡ true
gam_system g e =
    let q = (gam_place g e).page in
    or_left (is_pfs_page g q || is_gam_page g q) (is_sgam_page g q)
    (or_right (is_pfs_page g q) (is_gam_page g q) (eq-eqb q (gam_page g (interval_of_page g q)) (sym (ap (gam_page g) (gam_interval g (e / interval_size g))))))

pub sgam_system : (g : Geometry) (e : ℕ) → is_system_place g (sgam_place g e).page ≡ true
sgam_system g e =
    let q = (sgam_place g e).page in
    or_right (is_pfs_page g q || is_gam_page g q) (is_sgam_page g q) (eq-eqb q (sgam_page g (interval_of_page g q)) (sym (ap (sgam_page g) (sgam_interval g (e / interval_size g)))))

pub pfs_system : (g : Geometry) (p : ℕ) → is_system_place g (pfs_page g p) ≡ true
pfs_system g p =
    let q = pfs_page g p in
    or_left (is_pfs_page g q || is_gam_page g q) (is_sgam_page g q) (or_left (is_pfs_page g q) (is_gam_page g q) (eq-eqb q (pfs_page g q) (pfs_again g p)))

-- so any look tells the header
pub map_header : (g : Geometry) (r : Resource) (q : ℕ) → is_system_place g q ≡ true → IsTrue (tells_header g r q)
map_header g r q system = or_left (is_system_place g q) (is_of_page r q) system

-- ---- they stand inside the file

pub page_low : (g : Geometry) → page_limit g ≤ 524288
page_low Standard = omega arith
page_low Small = omega arith

pub extent_low : (g : Geometry) (pages e : ℕ) → HasShape g pages → e < pages / 8 → 8 * e < page_limit g
extent_low g pages e file lt = let high = file.high in omega (arith, lt, high)

pub gam_inside : (g : Geometry) (pages e : ℕ) → HasShape g pages → e < pages / 8 → (gam_place g e).page < pages
gam_inside Standard pages e file lt =
    let low = file.low in
    cond_both (eqb (e / 63904) 0) 2 (8 * 63904 * (e / 63904)) (λ q. q < pages) (λ _. omega (arith, low)) (λ _. omega (arith, lt))
gam_inside Small pages e file lt =
    let low = file.low in
    cond_both (eqb (e / 64) 0) 2 (8 * 64 * (e / 64)) (λ q. q < pages) (λ _. omega (arith, low)) (λ _. omega (arith, lt))

pub sgam_inside : (g : Geometry) (pages e : ℕ) → HasShape g pages → e < pages / 8 → (sgam_place g e).page < pages
sgam_inside Standard pages e file lt =
    let low = file.low in
    cond_both (eqb (e / 63904) 0) 2 (8 * 63904 * (e / 63904)) (λ q. q + 1 < pages) (λ _. omega (arith, low)) (λ _. omega (arith, lt))
sgam_inside Small pages e file lt =
    let low = file.low in
    cond_both (eqb (e / 64) 0) 2 (8 * 64 * (e / 64)) (λ q. q + 1 < pages) (λ _. omega (arith, low)) (λ _. omega (arith, lt))

pub pfs_inside : (g : Geometry) (pages p : ℕ) → HasShape g pages → p < pages → pfs_page g p < pages
pfs_inside Standard pages p file lt =
    let low = file.low in
    cond_both (eqb (p / 8088) 0) 1 (8088 * (p / 8088)) (λ q. q < pages) (λ _. omega (arith, low)) (λ _. omega (arith, lt))
pfs_inside Small pages p file lt =
    let low = file.low in
    cond_both (eqb (p / 88) 0) 1 (88 * (p / 88)) (λ q. q < pages) (λ _. omega (arith, low)) (λ _. omega (arith, lt))

pub bit_low : (g : Geometry) (e : ℕ) → e % interval_size g < BIT_COUNT
bit_low Standard e = omega arith
bit_low Small e = omega arith

-- the pages of an extent have one PFS page
pub same_pfs : (g : Geometry) (e i : ℕ) → i < 8 → pfs_page g (8 * e + i) ≡ pfs_page g (8 * e)
same_pfs Standard e i lt = let same : (8 * e + i) / 8088 ≡ 8 * e / 8088 = omega (arith, lt) in ap (λ k. if eqb k 0 then 1 else 8088 * k) same
same_pfs Small e i lt = let same : (8 * e + i) / 88 ≡ 8 * e / 88 = omega (arith, lt) in ap (λ k. if eqb k 0 then 1 else 88 * k) same

-- the number of a page of an extent of the file is one of 32 bits
pub page_fits : (g : Geometry) (pages e i : ℕ) → HasShape g pages → e < pages / 8 → i < 8 → 8 * e + i < 2 ^ 32
page_fits g pages e i file lt small =
    let high = file.high in
    let low = page_low g in
    omega (arith, high, low, lt, small)
