-- The guards of whole pages.
use Rattle.std.proofs.Common.{◌≡◌, ℕ, ◌-◌, ◌<◌, ◌≤◌, Bool, true, false, ltb, leb, ◌&&◌, Option, Some, None, inl, inr, refl, sym, ap, ◌∙◌, subst}
use Rattle.std.specs.Prelude.{if◌then◌else◌}
use Rattle.std.proofs.lemmas.Bool.{false≢true, true≢false, cases_Bool, lt-ltb, lt-leb, ltb-true}
use Rattle.spec_file.specs.declared.data.Resource.{Resource}
use Rattle.spec_file.specs.declared.data.Resource.TheVariants as resource
use Rattle.spec_file.specs.declared.geometry.Geometry.{Geometry}
use Rattle.spec_file.specs.declared.geometry.Geometry.TheVariants.{Standard, Small}
use Rattle.spec_file.specs.declared.role.Role.{Role}
use Rattle.spec_file.specs.declared.role.Role.TheVariants as role
use Rattle.spec_file.specs.Image.{maps_start}
use Rattle.spec_file.specs.Places.{pfs_span, pfs_place, pfs_page}
use Rattle.spec_file.specs.Roles.{role_of, is_for_objects}
use Rattle.spec_log.specs.Cover.{bit_guard_by, byte_guard, byte_guard_by, pfs_guard, paged_at}
use Rattle.law_cover.proofs.Places.{pages_guard_bytes}
use Rattle.law_cover.specs.Pages.{PagesGuardThemselves, CatalogGuardsBoot, PfsHeadersAreFixed}

pub ordinary_role : (r : Role) → is_for_objects r ≡ true → r ≡ role.Ordinary
ordinary_role role.Ordinary e = refl
ordinary_role role.FileHeader e = absurd (false≢true e)
ordinary_role role.Pfs e = absurd (false≢true e)
ordinary_role role.Gam e = absurd (false≢true e)
ordinary_role role.Sgam e = absurd (false≢true e)
ordinary_role role.Reserved e = absurd (false≢true e)
ordinary_role role.Boot e = absurd (false≢true e)

-- the guard in a file that has the page, by its role
guard_by : (g : Geometry) (pages p at : ℕ) (r : Role) → p < pages → role_of g p ≡ r → byte_guard g pages p at ≡ byte_guard_by r g pages p at
guard_by g pages p at r lt e =
    ap (λ b. if b then byte_guard_by (role_of g p) g pages p at else None) (lt-ltb p pages lt)
    ∙ ap (λ q. byte_guard_by q g pages p at) e

pub pages_guard_themselves : PagesGuardThemselves
pages_guard_themselves g pages p at lt ordinary = guard_by g pages p at role.Ordinary lt (ordinary_role (role_of g p) ordinary)

boot_role : (g : Geometry) → role_of g 9 ≡ role.Boot
boot_role Standard = refl
boot_role Small = refl

pub catalog_guards_boot : CatalogGuardsBoot
catalog_guards_boot g pages at lt = guard_by g pages 9 at role.Boot lt (boot_role g)

-- a PFS byte of a page of the file stands in the file
pub pfs_inside : (g : Geometry) (pages p : ℕ) → 16 ≤ pages → p < pages → (pfs_place g p).page < pages
pfs_inside g pages p many lt = elim (cases_Bool (ltb (pfs_place g p).page pages)) [
  | inl e ↦ ltb-true (pfs_place g p).page pages e
  | inr e ↦
      let none : byte_guard g pages (pfs_place g p).page (pfs_place g p).at ≡ None =
      ap (λ b. if b then byte_guard_by (role_of g (pfs_place g p).page) g pages (pfs_place g p).page (pfs_place g p).at else None) e in
      let some = pages_guard_bytes g pages p many lt in
      absurd (differ (resource.Byte (record { 0 = p })) (sym none ∙ some))
]
  where
    differ : (r : Resource) → None ≡ Some r → ⊥
    differ r e = cc

-- the guard is the Byte of some page
abbrev pub IsByte : Option Resource → Type 0
IsByte (Some (resource.Byte p)) = Unit {0}
IsByte other = ⊥

-- a page with such a byte is a PFS page
pfs_by : (r : Role) (g : Geometry) (pages q at : ℕ) → IsByte (byte_guard_by r g pages q at) → r ≡ role.Pfs
pfs_by role.Pfs g pages q at h = refl
pfs_by role.Boot g pages q at h = absurd h
pfs_by role.Ordinary g pages q at h = absurd h
pfs_by role.FileHeader g pages q at h = absurd h
pfs_by role.Gam g pages q at h = absurd h
pfs_by role.Sgam g pages q at h = absurd h
pfs_by role.Reserved g pages q at h = absurd h

pfs_page_role : (g : Geometry) (pages p : ℕ) → 16 ≤ pages → p < pages → role_of g (pfs_page g p) ≡ role.Pfs
pfs_page_role g pages p many lt =
    let q = pfs_page g p in
    let at = (pfs_place g p).at in
    pfs_by (role_of g q) g pages q at
    (subst IsByte (sym (pages_guard_bytes g pages p many lt) ∙ guard_by g pages q at (role_of g q) (pfs_inside g pages p many lt) refl) tt)

low_unguarded : (g : Geometry) (pages q at : ℕ) → at < maps_start → pfs_guard g pages q at ≡ None
low_unguarded g pages q at lt = below (leb maps_start at) (ltb (at - maps_start) (pfs_span g)) (ltb (paged_at q at) pages) (lt-leb maps_start at lt)
  where
    below : (a b c : Bool) → a ≡ false → (if a && b && c then Some (resource.Byte (record { 0 = paged_at q at })) else None) ≡ None
    below false b c e = refl
    below true b c e = absurd (true≢false e)

pub pfs_headers_are_fixed : PfsHeadersAreFixed
pfs_headers_are_fixed g pages p many lt =
    let q = pfs_page g p in
    let inside = pfs_inside g pages p many lt in
    let role_is = pfs_page_role g pages p many lt in (
      (λ at low. guard_by g pages q at role.Pfs inside role_is ∙ low_unguarded g pages q at low),
      (λ n.
          ap (λ b. if b then bit_guard_by (role_of g q) g pages q n else None) (lt-ltb q pages inside)
          ∙ ap (λ r. bit_guard_by r g pages q n) role_is),
    )
