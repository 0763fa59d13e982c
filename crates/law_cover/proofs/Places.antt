-- The guards at the places of a file's maps.
use Rattle.std.proofs.Common.{◌≡◌, ℕ, zero, suc, ◌+◌, ◌-◌, ◌*◌, ◌/◌, ◌%◌, ◌<◌, ◌≤◌, Bool, true, false, eqb, leb, ltb, ◌&&◌, Some, None, inl, inr, refl, sym, ap, ◌∙◌, subst, arith}
use Rattle.std.proofs.lemmas.Bool.{true≢false, false≢true, lt-ltb, le-leb, and_from, ne_eqb, eq-eqb, cases_eq}
use Rattle.spec_file.specs.declared.data.Resource.TheVariants as resource
use Rattle.spec_file.specs.declared.geometry.Geometry.{Geometry}
use Rattle.spec_file.specs.declared.geometry.Geometry.TheVariants.{Standard, Small}
use Rattle.spec_file.specs.declared.role.Role.{Role}
use Rattle.spec_file.specs.declared.role.Role.TheVariants.{FileHeader, Pfs, Gam, Sgam}
use Rattle.spec_file.specs.Places.{interval_size, interval_of_page, gam_page, sgam_page, pfs_span, pfs_page, pfs_place}
use Rattle.spec_file.specs.Image.{maps_start}
use Rattle.spec_file.specs.Roles.{role_of}
use Rattle.spec_log.specs.Cover.{extent_at, bit_guard, extent_guard, bit_guard_by, byte_guard, byte_guard_by, paged_at}
use Rattle.std.specs.Prelude.{if◌then◌else◌}
use Rattle.law_cover.specs.Places.{ExtentsGuardBits, PagesGuardBytes}

-- a bit of a map page whose role and interval are known
guarded : (g : Geometry) (pages p m n e : ℕ) → p < pages → extent_guard g pages p n ≡ bit_guard_by (role_of g p) g pages p n → interval_of_page g p ≡ m →
    n < interval_size g → interval_size g * m + n ≡ e → e < pages / 8 → bit_guard g pages p n ≡ Some (resource.Extent (record { 0 = e }))
guarded g pages p m n e inside role interval low place lt =
    let at : extent_at g p n ≡ e = ap (λ i. interval_size g * i + n) interval ∙ place in
    let there : ltb (extent_at g p n) (pages / 8) ≡ true = ap (λ x. ltb x (pages / 8)) at ∙ lt-ltb e (pages / 8) lt in
    ap (λ s. if s then bit_guard_by (role_of g p) g pages p n else None) (lt-ltb p pages inside)
    ∙ sym role
    ∙ ap (λ s. if s then Some (resource.Extent (record { 0 = extent_at g p n })) else None)
    (and_from (ltb n (interval_size g)) (ltb (extent_at g p n) (pages / 8)) (lt-ltb n (interval_size g) low) there)
    ∙ ap (λ x. Some (resource.Extent (record { 0 = x }))) at

-- what the map pages of an interval are, for the intervals that a file of the geometry may have
pub record IsMapped (g : Geometry) (m : ℕ) : Type 0 where
  pub gam : role_of g (gam_page g m) ≡ Gam
  pub sgam : role_of g (sgam_page g m) ≡ Sgam
  pub gam_interval : interval_of_page g (gam_page g m) ≡ m
  pub sgam_interval : interval_of_page g (sgam_page g m) ≡ m
  pub gam_low : gam_page g m ≤ 8 * interval_size g * m + 2
  pub sgam_low : sgam_page g m ≤ 8 * interval_size g * m + 3

mapped_standard : (m : ℕ) → m < 2 → IsMapped Standard m
mapped_standard zero h = record { gam = refl; sgam = refl; gam_interval = refl; sgam_interval = refl; gam_low = omega arith; sgam_low = omega arith }
mapped_standard (suc zero) h = record { gam = refl; sgam = refl; gam_interval = refl; sgam_interval = refl; gam_low = omega arith; sgam_low = omega arith }
mapped_standard (suc (suc m)) h = absurd (omega arith)

mapped_small : (m : ℕ) → m < 8 → IsMapped Small m
mapped_small zero h = record { gam = refl; sgam = refl; gam_interval = refl; sgam_interval = refl; gam_low = omega arith; sgam_low = omega arith }
mapped_small (suc zero) h = record { gam = refl; sgam = refl; gam_interval = refl; sgam_interval = refl; gam_low = omega arith; sgam_low = omega arith }
mapped_small (suc (suc zero)) h = record { gam = refl; sgam = refl; gam_interval = refl; sgam_interval = refl; gam_low = omega arith; sgam_low = omega arith }
mapped_small (suc (suc (suc zero))) h = record { gam = refl; sgam = refl; gam_interval = refl; sgam_interval = refl; gam_low = omega arith; sgam_low = omega arith }
mapped_small (suc (suc (suc (suc zero)))) h = record { gam = refl; sgam = refl; gam_interval = refl; sgam_interval = refl; gam_low = omega arith; sgam_low = omega arith }
mapped_small (suc (suc (suc (suc (suc zero))))) h = record { gam = refl; sgam = refl; gam_interval = refl; sgam_interval = refl; gam_low = omega arith; sgam_low = omega arith }
mapped_small (suc (suc (suc (suc (suc (suc zero)))))) h = record { gam = refl; sgam = refl; gam_interval = refl; sgam_interval = refl; gam_low = omega arith; sgam_low = omega arith }
mapped_small (suc (suc (suc (suc (suc (suc (suc zero))))))) h = record { gam = refl; sgam = refl; gam_interval = refl; sgam_interval = refl; gam_low = omega arith; sgam_low = omega arith }
mapped_small (suc (suc (suc (suc (suc (suc (suc (suc m)))))))) h = absurd (omega arith)

by_role : (role role2 : Role) (g : Geometry) (pages p n : ℕ) → role2 ≡ role → extent_guard g pages p n ≡ bit_guard_by role g pages p n → extent_guard g pages p n ≡ bit_guard_by role2 g pages p n
by_role role role2 g pages p n e h = subst (λ r. extent_guard g pages p n ≡ bit_guard_by r g pages p n) (sym e) h

pub extents_guard_bits : ExtentsGuardBits
extents_guard_bits Standard pages e low high lt =
    let m = e / 63904 in
    let few : m < 2 = omega arith in
    let mapped = mapped_standard m few in
    let place : 63904 * m + e % 63904 ≡ e = omega arith in
    let small : e % 63904 < 63904 = omega arith in
    let a = mapped.gam_low in
    let b = mapped.sgam_low in (
      guarded Standard pages (gam_page Standard m) m (e % 63904) e (omega arith) (by_role Gam (role_of Standard (gam_page Standard m)) Standard pages (gam_page Standard m) (e % 63904) mapped.gam refl) mapped.gam_interval small place lt,
      guarded Standard pages (sgam_page Standard m) m (e % 63904) e (omega arith) (by_role Sgam (role_of Standard (sgam_page Standard m)) Standard pages (sgam_page Standard m) (e % 63904) mapped.sgam refl) mapped.sgam_interval small place lt,
    )
extents_guard_bits Small pages e low high lt =
    let m = e / 64 in
    let few : m < 8 = omega arith in
    let mapped = mapped_small m few in
    let place : 64 * m + e % 64 ≡ e = omega arith in
    let small : e % 64 < 64 = omega arith in
    let a = mapped.gam_low in
    let b = mapped.sgam_low in (
      guarded Small pages (gam_page Small m) m (e % 64) e (omega arith) (by_role Gam (role_of Small (gam_page Small m)) Small pages (gam_page Small m) (e % 64) mapped.gam refl) mapped.gam_interval small place lt,
      guarded Small pages (sgam_page Small m) m (e % 64) e (omega arith) (by_role Sgam (role_of Small (sgam_page Small m)) Small pages (sgam_page Small m) (e % 64) mapped.sgam refl) mapped.sgam_interval small place lt,
    )

second_of : (a b : Bool) (x y z : Role) → a ≡ false → b ≡ true → (if a then x else (if b then y else z)) ≡ y
second_of true b x y z e h = absurd (true≢false e)
second_of false true x y z e h = refl
second_of false false x y z e h = absurd (false≢true h)

pfs_role : (g : Geometry) (p : ℕ) → (p ≡ 0 → ⊥) → p ≡ pfs_page g p → role_of g p ≡ Pfs
pfs_role g p above own = second_of (eqb p 0) (eqb p (pfs_page g p)) FileHeader Pfs _ (ne_eqb p 0 above) (eq-eqb p (pfs_page g p) own)

-- a byte of a PFS page that speaks of page p
paged : (g : Geometry) (pages q at p : ℕ) → q < pages → role_of g q ≡ Pfs → maps_start ≤ at → at - maps_start < pfs_span g → paged_at q at ≡ p → p < pages →
    byte_guard g pages q at ≡ Some (resource.Byte (record { 0 = p }))
paged g pages q at p inside role low high place lt =
    let there : ltb (paged_at q at) pages ≡ true = ap (λ x. ltb x pages) place ∙ lt-ltb p pages lt in
    ap (λ s. if s then byte_guard_by (role_of g q) g pages q at else None) (lt-ltb q pages inside)
    ∙ ap (λ r. byte_guard_by r g pages q at) role
    ∙ ap (λ s. if s then Some (resource.Byte (record { 0 = paged_at q at })) else None)
    (and_from (leb maps_start at && ltb (at - maps_start) (pfs_span g)) (ltb (paged_at q at) pages)
    (and_from (leb maps_start at) (ltb (at - maps_start) (pfs_span g)) (le-leb maps_start at low) (lt-ltb (at - maps_start) (pfs_span g) high)) there)
    ∙ ap (λ x. Some (resource.Byte (record { 0 = x }))) place

first_part : (g : Geometry) (pages p : ℕ) → 16 ≤ pages → p < pages → p / pfs_span g ≡ 0 → p % pfs_span g ≡ p → p < pfs_span g → role_of g 1 ≡ Pfs →
    byte_guard g pages (pfs_place g p).page (pfs_place g p).at ≡ Some (resource.Byte (record { 0 = p }))
first_part g pages p low lt none rest small role =
    ap (λ n. byte_guard g pages (if eqb n 0 then 1 else pfs_span g * n) (maps_start + p % pfs_span g)) none
    ∙ ap (λ n. byte_guard g pages 1 (maps_start + n)) rest
    ∙ paged g pages 1 (maps_start + p) p (omega arith) role (omega arith) (omega arith) (omega arith) lt

later_part : (g : Geometry) (pages p n : ℕ) → p < pages → p / pfs_span g ≡ n → (n ≡ 0 → ⊥) → pfs_span g * n + p % pfs_span g ≡ p → p % pfs_span g < pfs_span g →
    (pfs_span g * n ≡ 1 → ⊥) → role_of g (pfs_span g * n) ≡ Pfs →
    byte_guard g pages (pfs_place g p).page (pfs_place g p).at ≡ Some (resource.Byte (record { 0 = p }))
later_part g pages p n lt part some place small not_one role =
    let q = pfs_span g * n in
    let at = maps_start + p % pfs_span g in
    ap (λ m. byte_guard g pages (if eqb m 0 then 1 else pfs_span g * m) at) part
    ∙ ap (λ s. byte_guard g pages (if s then 1 else q) at) (ne_eqb n 0 some)
    ∙ paged g pages q at p (omega arith) role (omega arith) (omega arith)
    (ap (λ s. (if s then 0 else q) + (at - maps_start)) (ne_eqb q 1 not_one) ∙ omega arith) lt

pub pages_guard_bytes : PagesGuardBytes
pages_guard_bytes Standard pages p low lt = elim (cases_eq (p / 8088) 0) [
  | inl none ↦ first_part Standard pages p low lt none (omega arith) (omega arith) refl
  | inr some ↦ later_part Standard pages p (p / 8088) lt refl some (omega arith) (omega arith) (λ e. omega arith)
      (pfs_role Standard (8088 * (p / 8088)) (λ e. omega arith) (by_part (p / 8088) some))
]
  where
    by_part : (n : ℕ) → (n ≡ 0 → ⊥) → 8088 * n ≡ pfs_page Standard (8088 * n)
    by_part n some =
        let same : 8088 * n / 8088 ≡ n = omega arith in
        sym (ap (λ m. if eqb m 0 then 1 else 8088 * m) same ∙ ap (λ s. if s then 1 else 8088 * n) (ne_eqb n 0 some))
pages_guard_bytes Small pages p low lt = elim (cases_eq (p / 88) 0) [
  | inl none ↦ first_part Small pages p low lt none (omega arith) (omega arith) refl
  | inr some ↦ later_part Small pages p (p / 88) lt refl some (omega arith) (omega arith) (λ e. omega arith)
      (pfs_role Small (88 * (p / 88)) (λ e. omega arith) (by_part (p / 88) some))
]
  where
    by_part : (n : ℕ) → (n ≡ 0 → ⊥) → 88 * n ≡ pfs_page Small (88 * n)
    by_part n some =
        let same : 88 * n / 88 ≡ n = omega arith in
        sym (ap (λ m. if eqb m 0 then 1 else 88 * m) same ∙ ap (λ s. if s then 1 else 88 * n) (ne_eqb n 0 some))
