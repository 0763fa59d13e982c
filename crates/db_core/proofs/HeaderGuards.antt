-- What tells a page's header guards it alone, if anything does.
use Rattle.std.proofs.Common.{◌≡◌, ℕ, ◌/◌, ◌-◌, ◌<◌, ◌≤◌, Bool, true, false, eqb, leb, ltb, ◌||◌, ◌&&◌, not, List, length, Some, None, inl, inr, refl, sym, ap, ◌∙◌, subst}
use Rattle.std.specs.Prelude.{if◌then◌else◌, MatchOption, slice_index, take as front}
use Rattle.std.proofs.lemmas.Bool.{false≢true, true≢false, both_ways, cond_both, and_parts, or_cases, eqb-true, not-true, lt-leb}
use Rattle.std.proofs.lemmas.List.{ext_get_or, get_or-take, length-take-le}
use Rattle.spec_file.specs.declared.data.Resource.{Resource}
use Rattle.spec_file.specs.declared.data.Resource.TheVariants as resource
use Rattle.spec_file.specs.declared.geometry.Geometry.{Geometry}
use Rattle.spec_file.specs.declared.role.Role.{Role}
use Rattle.spec_file.specs.declared.role.Role.TheVariants as role
use Rattle.spec_file.specs.Image.{maps_start}
use Rattle.spec_file.specs.Places.{pfs_span}
use Rattle.spec_file.specs.Roles.{role_of, is_pfs_page, is_gam_page, is_sgam_page, is_system_place, is_system_extent}
use Rattle.spec_log.specs.Cover.{byte_guard, byte_guard_by, paged_at}
use Rattle.db_locks.specs.Guards.{is_of_page, tells_header}

none_of : (a b c : Bool) → a ≡ false → b ≡ false → c ≡ false → (a || b || c) ≡ false
none_of false false false x y z = refl
none_of true b c x y z = absurd (true≢false x)
none_of false true c x y z = absurd (true≢false y)
none_of false false true x y z = absurd (true≢false z)

-- of page 9 it is the catalog
of_boot : (r : Resource) (p : ℕ) → eqb p 9 ≡ true → is_of_page r p ≡ true → resource.Catalog ≡ r
of_boot resource.Catalog p e h = refl
of_boot (resource.Table o) p e h = absurd (false≢true h)
of_boot (resource.Extent x) p e h = absurd (false≢true h)
of_boot (resource.Byte q) p e h = absurd (false≢true h)
of_boot (resource.Page q) p e h = absurd (both_ways (eqb p 9) (not-true (eqb p 9) (and_parts (eqb p q.0) (not (eqb p 9)) h).1) e)

-- of another it is the page itself
of_other : (r : Resource) (p : ℕ) → eqb p 9 ≡ false → is_of_page r p ≡ true → resource.Page (record { 0 = p }) ≡ r
of_other resource.Catalog p e h = absurd (both_ways (eqb p 9) e h)
of_other (resource.Table o) p e h = absurd (false≢true h)
of_other (resource.Extent x) p e h = absurd (false≢true h)
of_other (resource.Byte q) p e h = absurd (false≢true h)
of_other (resource.Page q) p e h = ap (λ n. resource.Page (record { 0 = n })) (eqb-true p q.0 (and_parts (eqb p q.0) (not (eqb p 9)) h).0)

abbrev OnlyBy : Geometry → ℕ → Resource → ℕ → ℕ → Role → Type 0
OnlyBy g pages r p at role = MatchOption (byte_guard_by role g pages p at) (Unit {0}) (λ s. s ≡ r)

pfs_only : (g : Geometry) (pages : ℕ) (r : Resource) (p at : ℕ) → at < maps_start → OnlyBy g pages r p at role.Pfs
pfs_only g pages r p at low =
    cond_both (leb maps_start at && ltb (at - maps_start) (pfs_span g) && ltb (paged_at p at) pages) (Some (resource.Byte (record { 0 = paged_at p at }))) None
    (λ o. MatchOption o (Unit {0}) (λ s. s ≡ r))
    (λ e. absurd (below (leb maps_start at) (ltb (at - maps_start) (pfs_span g)) (ltb (paged_at p at) pages) (lt-leb maps_start at low) e))
    (λ e. tt)
  where
    below : (a b c : Bool) → a ≡ false → (a && b && c) ≡ true → ⊥
    below false b c e h = false≢true h
    below true b c e h = true≢false e

only_by_role : (g : Geometry) (pages : ℕ) (r : Resource) (p at : ℕ) → at < maps_start → tells_header g r p ≡ true → OnlyBy g pages r p at (role_of g p)
only_by_role g pages r p at low tells =
    let Only = OnlyBy g pages r p at in
    let reserved = if is_system_extent g (p / 8) then role.Reserved else role.Ordinary in
    let boot = if eqb p 9 then role.Boot else reserved in
    let sgam = if is_sgam_page g p then role.Sgam else boot in
    let gam = if is_gam_page g p then role.Gam else sgam in
    cond_both (eqb p 0) role.FileHeader (if is_pfs_page g p then role.Pfs else gam) Only (λ e. tt) (λ e0.
    cond_both (is_pfs_page g p) role.Pfs gam Only (λ e. pfs_only g pages r p at low) (λ e1.
    cond_both (is_gam_page g p) role.Gam sgam Only (λ e. tt) (λ e2.
    cond_both (is_sgam_page g p) role.Sgam boot Only (λ e. tt) (λ e3.
    let of_page = of_it (none_of (is_pfs_page g p) (is_gam_page g p) (is_sgam_page g p) e1 e2 e3) in
    cond_both (eqb p 9) role.Boot reserved Only (λ e. of_boot r p e of_page) (λ e4.
    cond_both (is_system_extent g (p / 8)) role.Reserved role.Ordinary Only (λ e. tt) (λ e. of_other r p e4 of_page))))))
  where
    of_it : is_system_place g p ≡ false → is_of_page r p ≡ true
    of_it none = elim (or_cases (is_system_place g p) (is_of_page r p) tells) [
      | inl e ↦ absurd (both_ways (is_system_place g p) none e)
      | inr e ↦ e
    ]

pub only_guard : (g : Geometry) (pages : ℕ) (r : Resource) (p at : ℕ) → at < maps_start → tells_header g r p ≡ true →
    MatchOption (byte_guard g pages p at) (Unit {0}) (λ s. s ≡ r)
only_guard g pages r p at low tells =
    cond_both (ltb p pages) (byte_guard_by (role_of g p) g pages p at) None (λ o. MatchOption o (Unit {0}) (λ s. s ≡ r)) (λ e. only_by_role g pages r p at low tells) (λ e. tt)

-- bytes that are the same up to a place
pub same_front : (n : ℕ) (xs ys : List ℕ) → n ≤ length xs → n ≤ length ys → ((i : ℕ) → i < n → slice_index xs i ≡ slice_index ys i) → front n xs ≡ front n ys
same_front n xs ys a b same =
    ext_get_or 0 (front n xs) (front n ys) (length-take-le n xs a ∙ sym (length-take-le n ys b))
    (λ i lt. let here : i < n = subst (λ k. i < k) (length-take-le n xs a) lt in get_or-take n xs i 0 here ∙ same i here ∙ sym (get_or-take n ys i 0 here))
