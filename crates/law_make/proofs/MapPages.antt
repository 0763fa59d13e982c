-- The pages of a file's maps: their roles, their intervals, and that the file has them.
use Rattle.std.proofs.Common.{◌≡◌, refl, ℕ, zero, suc, ◌+◌, ◌*◌, ◌/◌, ◌%◌, ◌<◌, ◌≤◌, Bool, true, false, eqb, ap, sym, ◌∙◌, arith, subst, inl, inr}
use Rattle.std.specs.Prelude.{if◌then◌else◌}
use Rattle.std.proofs.lemmas.Bool.{true≢false, false≢true, ne_eqb, eq-eqb, cases_eq}
use Rattle.spec_file.specs.declared.geometry.Geometry.{Geometry}
use Rattle.spec_file.specs.declared.geometry.Geometry.TheVariants.{Standard, Small}
use Rattle.spec_file.specs.declared.role.Role.{Role}
use Rattle.spec_file.specs.declared.role.Role.TheVariants.{FileHeader, Pfs, Gam, Sgam}
use Rattle.spec_file.specs.Places.{HasShape, interval_size, interval_of_page, gam_page, sgam_page, pfs_span, pfs_page}
use Rattle.spec_file.specs.Roles.{role_of}
use Rattle.spec_make.specs.NewMaps.{pfs_start}

-- what the GAM and SGAM page of an interval are, where a file may have the interval
pub record AreMaps (g : Geometry) (m : ℕ) : Type 0 where
  pub gam : role_of g (gam_page g m) ≡ Gam
  pub sgam : role_of g (sgam_page g m) ≡ Sgam
  pub gam_interval : interval_of_page g (gam_page g m) ≡ m
  pub sgam_interval : interval_of_page g (sgam_page g m) ≡ m
  pub gam_low : gam_page g m ≤ 8 * interval_size g * m + 2
  pub sgam_low : sgam_page g m ≤ 8 * interval_size g * m + 3

standard_maps : (m : ℕ) → m < 2 → AreMaps Standard m
standard_maps zero h = record { gam = refl; sgam = refl; gam_interval = refl; sgam_interval = refl; gam_low = omega arith; sgam_low = omega arith }
standard_maps (suc zero) h = record { gam = refl; sgam = refl; gam_interval = refl; sgam_interval = refl; gam_low = omega arith; sgam_low = omega arith }
standard_maps (suc (suc m)) h = absurd (omega arith)

small_maps : (m : ℕ) → m < 8 → AreMaps Small m
small_maps zero h = record { gam = refl; sgam = refl; gam_interval = refl; sgam_interval = refl; gam_low = omega arith; sgam_low = omega arith }
small_maps (suc zero) h = record { gam = refl; sgam = refl; gam_interval = refl; sgam_interval = refl; gam_low = omega arith; sgam_low = omega arith }
small_maps (suc (suc zero)) h = record { gam = refl; sgam = refl; gam_interval = refl; sgam_interval = refl; gam_low = omega arith; sgam_low = omega arith }
small_maps (suc (suc (suc zero))) h = record { gam = refl; sgam = refl; gam_interval = refl; sgam_interval = refl; gam_low = omega arith; sgam_low = omega arith }
small_maps (suc (suc (suc (suc zero)))) h = record { gam = refl; sgam = refl; gam_interval = refl; sgam_interval = refl; gam_low = omega arith; sgam_low = omega arith }
small_maps (suc (suc (suc (suc (suc zero))))) h = record { gam = refl; sgam = refl; gam_interval = refl; sgam_interval = refl; gam_low = omega arith; sgam_low = omega arith }
small_maps (suc (suc (suc (suc (suc (suc zero)))))) h = record { gam = refl; sgam = refl; gam_interval = refl; sgam_interval = refl; gam_low = omega arith; sgam_low = omega arith }
small_maps (suc (suc (suc (suc (suc (suc (suc zero))))))) h = record { gam = refl; sgam = refl; gam_interval = refl; sgam_interval = refl; gam_low = omega arith; sgam_low = omega arith }
small_maps (suc (suc (suc (suc (suc (suc (suc (suc m)))))))) h = absurd (omega arith)

-- the maps of an extent of the file: they are those of its interval, the file has them, and it has its own bit there
pub record AreMapsOf (g : Geometry) (pages e m n : ℕ) : Type 0 where
  pub maps : AreMaps g m
  pub gam_inside : gam_page g m < pages
  pub sgam_inside : sgam_page g m < pages
  pub low : n < interval_size g
  pub byte : n / 8 < 8096
  pub place : interval_size g * m + n ≡ e

pub maps_of : (g : Geometry) (pages e : ℕ) → HasShape g pages → 8 * e < pages → AreMapsOf g pages e (e / interval_size g) (e % interval_size g)
maps_of Standard pages e shape inside =
    let high = shape.high in
    let low = shape.low in
    let whole = shape.whole in
    let maps = standard_maps (e / 63904) (omega (arith, high, inside)) in record {
      maps = maps;
      gam_inside = omega (arith, maps.gam_low, inside, whole, low);
      sgam_inside = omega (arith, maps.sgam_low, inside, whole, low);
      low = omega arith;
      byte = omega arith;
      place = omega arith;
    }
maps_of Small pages e shape inside =
    let high = shape.high in
    let low = shape.low in
    let whole = shape.whole in
    let maps = small_maps (e / 64) (omega (arith, high, inside)) in record {
      maps = maps;
      gam_inside = omega (arith, maps.gam_low, inside, whole, low);
      sgam_inside = omega (arith, maps.sgam_low, inside, whole, low);
      low = omega arith;
      byte = omega arith;
      place = omega arith;
    }

-- ---- PFS pages

second_of : (a b : Bool) (x y z : Role) → a ≡ false → b ≡ true → (if a then x else (if b then y else z)) ≡ y
second_of true b x y z e h = absurd (true≢false e)
second_of false true x y z e h = refl
second_of false false x y z e h = absurd (false≢true h)

pfs_role : (g : Geometry) (p : ℕ) → (p ≡ 0 → ⊥) → p ≡ pfs_page g p → role_of g p ≡ Pfs
pfs_role g p above own = second_of (eqb p 0) (eqb p (pfs_page g p)) FileHeader Pfs _ (ne_eqb p 0 above) (eq-eqb p (pfs_page g p) own)

-- the PFS page of page p: the file has it, and the pages of which it speaks begin with p's span
pub record IsPfsPageOf (g : Geometry) (pages p q i : ℕ) : Type 0 where
  pub role : role_of g q ≡ Pfs
  pub inside : q < pages
  pub low : i < pfs_span g
  pub byte : i < 8096
  pub place : pfs_start g q + i ≡ p

standard_first : (pages p : ℕ) → 16 ≤ pages → p / 8088 ≡ 0 → IsPfsPageOf Standard pages p 1 (p % 8088)
standard_first pages p many part = record { role = refl; inside = omega (arith, many); low = omega arith; byte = omega arith; place = omega (arith, part) }

standard_later : (pages p q : ℕ) → p < pages → (p / 8088 ≡ 0 → ⊥) → q ≡ 8088 * (p / 8088) → IsPfsPageOf Standard pages p q (p % 8088)
standard_later pages p q inside some is =
    let part : q / 8088 ≡ p / 8088 = omega (arith, is) in
    let whole : q ≡ 8088 * (q / 8088) = omega (arith, is) in
    record {
      role = pfs_role Standard q (λ e. some (omega (arith, is, e)))
          (whole ∙ sym (ap (λ (s : Bool). if s then 1 else 8088 * (q / 8088)) (ne_eqb (q / 8088) 0 (λ e. some (sym part ∙ e)))));
      inside = omega (arith, is, inside);
      low = omega arith;
      byte = omega arith;
      place = omega (arith, is);
    }

small_first : (pages p : ℕ) → 16 ≤ pages → p / 88 ≡ 0 → IsPfsPageOf Small pages p 1 (p % 88)
small_first pages p many part = record { role = refl; inside = omega (arith, many); low = omega arith; byte = omega arith; place = omega (arith, part) }

small_later : (pages p q : ℕ) → p < pages → (p / 88 ≡ 0 → ⊥) → q ≡ 88 * (p / 88) → IsPfsPageOf Small pages p q (p % 88)
small_later pages p q inside some is =
    let part : q / 88 ≡ p / 88 = omega (arith, is) in
    let whole : q ≡ 88 * (q / 88) = omega (arith, is) in
    record {
      role = pfs_role Small q (λ e. some (omega (arith, is, e)))
          (whole ∙ sym (ap (λ (s : Bool). if s then 1 else 88 * (q / 88)) (ne_eqb (q / 88) 0 (λ e. some (sym part ∙ e)))));
      inside = omega (arith, is, inside);
      low = omega arith;
      byte = omega arith;
      place = omega (arith, is);
    }

pub pfs_page_of : (g : Geometry) (pages p : ℕ) → 16 ≤ pages → p < pages → IsPfsPageOf g pages p (pfs_page g p) (p % pfs_span g)
pfs_page_of Standard pages p many inside = elim (cases_eq (p / 8088) 0) [
  | inl none ↦ subst (λ q. IsPfsPageOf Standard pages p q (p % 8088)) (sym (ap (λ (s : Bool). if s then 1 else 8088 * (p / 8088)) (eq-eqb (p / 8088) 0 none)))
      (standard_first pages p many none)
  | inr some ↦ subst (λ q. IsPfsPageOf Standard pages p q (p % 8088)) (sym (ap (λ (s : Bool). if s then 1 else 8088 * (p / 8088)) (ne_eqb (p / 8088) 0 some)))
      (standard_later pages p (8088 * (p / 8088)) inside some refl)
]
pfs_page_of Small pages p many inside = elim (cases_eq (p / 88) 0) [
  | inl none ↦ subst (λ q. IsPfsPageOf Small pages p q (p % 88)) (sym (ap (λ (s : Bool). if s then 1 else 88 * (p / 88)) (eq-eqb (p / 88) 0 none)))
      (small_first pages p many none)
  | inr some ↦ subst (λ q. IsPfsPageOf Small pages p q (p % 88)) (sym (ap (λ (s : Bool). if s then 1 else 88 * (p / 88)) (ne_eqb (p / 88) 0 some)))
      (small_later pages p (88 * (p / 88)) inside some refl)
]
