-- Every part of a new file is clean.
use Rattle.std.proofs.Common.{◌≡◌, refl, ℕ, ◌*◌, ◌/◌, ◌%◌, ◌<◌, ◌≤◌, ◌&&◌, true, false, not, eqb, [], IsTrue, ap, sym, ◌∙◌, arith, subst, inl, inr}
use Rattle.std.specs.Prelude.{nat_lt, Some, Contains, ◌==◌, unwrap_or}
use Rattle.std.proofs.lemmas.Bool.{true≢false, false≢true, and_parts, and_from, eqb-true, eq-eqb, ne_eqb, lt-ltb, not_from_false, not-true}
use Rattle.spec_file.specs.declared.data.Resource.{Resource}
use Rattle.spec_file.specs.declared.data.Resource.TheVariants.{Catalog, Table, Extent, Byte, Page}
use Rattle.spec_file.specs.declared.geometry.Geometry.{Geometry}
use Rattle.spec_file.specs.declared.geometry.Geometry.TheVariants.{Standard, Small}
use Rattle.spec_file.specs.declared.pfs.PfsKind.{PfsKind}
use Rattle.spec_file.specs.declared.pfs.PfsKind.TheVariants as kinds
use Rattle.spec_file.specs.declared.role.Role.{Role}
use Rattle.spec_file.specs.declared.role.Role.TheVariants as role
use Rattle.spec_file.specs.Image.{page}
use Rattle.spec_file.specs.Catalog.{PassesCatalog}
use Rattle.spec_file.specs.CatalogRows.{CatalogRow, rows_of}
use Rattle.spec_file.specs.Pfs.{expected}
use Rattle.spec_file.specs.Places.{HasShape, is_free, is_mixed, extent_count, page_limit}
use Rattle.spec_file.specs.Roles.{role_of, is_for_objects, is_system_extent}
use Rattle.spec_chain.specs.Chains.{IsObject}
use Rattle.spec_chain.specs.Uses.{Use, IsUse}
use Rattle.spec_chain.specs.Marks.{IsMarker}
use Rattle.spec_check.specs.Pages.{kind_of_role}
use Rattle.spec_check.specs.System.{IsSystemSound}
use Rattle.spec_check.proofs.Members.{nothing_there}
use Rattle.spec_extents.specs.Extents.{extent_of, Fits, IsMixed}
use Rattle.spec_clean.specs.CleanExtents.{IsCleanPage, IsCleanExtent}
use Rattle.spec_clean.specs.CleanFiles.{IsCleanPart}
use Rattle.spec_steps.specs.Sgam.{IsSgamExact}
use Rattle.spec_make.specs.NewMaps.{content_size, is_new_free}
use Rattle.spec_make.specs.NewPages.{new_type, new_header, new_file}
use Rattle.spec_make.proofs.PageLaws.{length-new_header, length-new_file}
use Rattle.law_make.proofs.Empty.{passes_empty, no_objects}
use Rattle.law_make.proofs.NewBytes.{page_is, free_is, mixed_is, pfs_is, says_type}
use Rattle.law_make.specs.Laws.{NewFileIsClean, NewFileHoldsNothing, NewSgamIsExact}

boot_role : (g : Geometry) → role_of g 9 ≡ role.Boot
boot_role Standard = refl
boot_role Small = refl

pub limit : (g : Geometry) → page_limit g ≤ 524288
limit Standard = omega arith
limit Small = omega arith

-- extent 1 holds no system place, and page 8 is one that objects may own
boot_extent : (g : Geometry) → is_system_extent g 1 ≡ false
boot_extent Standard = refl
boot_extent Small = refl

page_eight : (g : Geometry) → role_of g 8 ≡ role.Ordinary
page_eight Standard = refl
page_eight Small = refl

ordinary_role : (r : Role) → IsTrue (is_for_objects r) → r ≡ role.Ordinary
ordinary_role role.Ordinary is = refl
ordinary_role role.FileHeader is = absurd (false≢true is)
ordinary_role role.Pfs is = absurd (false≢true is)
ordinary_role role.Gam is = absurd (false≢true is)
ordinary_role role.Sgam is = absurd (false≢true is)
ordinary_role role.Reserved is = absurd (false≢true is)
ordinary_role role.Boot is = absurd (false≢true is)

-- an extent that is free isn't extent 1, nor a system extent
record IsNewFree (g : Geometry) (pages e : ℕ) : Type 0 where
  boot : e ≡ 1 → ⊥
  system : is_system_extent g e ≡ false

new_free : (g : Geometry) (pages e : ℕ) → is_new_free g pages e ≡ true → IsNewFree g pages e
new_free g pages e is =
    let parts = and_parts (nat_lt (8 * e) pages && not (e == 1)) (not (is_system_extent g e)) is in
    let boot = (and_parts (nat_lt (8 * e) pages) (not (e == 1)) parts.0).1 in record {
      boot = λ same. true≢false (sym (eq-eqb e 1 same) ∙ not-true (e == 1) boot);
      system = not-true (is_system_extent g e) parts.1;
    }

is_new_free_if : (g : Geometry) (pages e : ℕ) → 8 * e < pages → (e ≡ 1 → ⊥) → is_system_extent g e ≡ false → is_new_free g pages e ≡ true
is_new_free_if g pages e inside other system =
    and_from (nat_lt (8 * e) pages && not (e == 1)) (not (is_system_extent g e))
    (and_from (nat_lt (8 * e) pages) (not (e == 1)) (lt-ltb (8 * e) pages inside) (not_from_false (e == 1) (ne_eqb e 1 other)))
    (not_from_false (is_system_extent g e) system)

-- the byte of a page that isn't ordinary is that of its role
fits_role : (r : Role) (kind : PfsKind) → kind_of_role r ≡ Some kind → Fits (expected (unwrap_or (kind_of_role r) kinds.Unused) 0) kind
fits_role r kind is =
    let same = ap (λ o. expected (unwrap_or o kinds.Unused) 0) is in
    record { flags = ap (λ b. b / 8) same; fullness = λ other. ap (λ b. b % 8) same }

module _ (g : Geometry) (pages : ℕ) (shape : HasShape g pages) where
  pub holds_nothing : rows_of (page (new_file g pages) 9) ≡ []
  holds_nothing =
      let low = shape.low in
      ap rows_of (page_is g pages 9 role.Boot (omega (arith, low)) (boot_role g))
      ∙ no_objects (new_header (new_type role.Boot) 9) content_size (length-new_header (new_type role.Boot) 9)

  pub no_object : (row : CatalogRow) → IsObject (new_file g pages) row → ⊥
  no_object row is = nothing_there row (subst (λ rows. Contains rows row) holds_nothing is)

  no_use : (p : ℕ) (u : Use) → IsUse g (new_file g pages) p u → ⊥
  no_use p u is = no_object is.0 is.1

  no_mark : (e o : ℕ) → IsMarker g (new_file g pages) e o → ⊥
  no_mark e o is = no_object is.0 is.1

  pub system_sound : IsSystemSound g (new_file g pages)
  system_sound p inside (inl wrong) =
      let low = subst (λ n. p < n) (length-new_file g pages) inside in
      let high = shape.high in
      let top = limit g in
      true≢false (sym (says_type g pages p wrong.0 low (omega (arith, low, high, top)) wrong.1) ∙ wrong.2)
  system_sound p inside (inr wrong) =
      let low = shape.low in
      wrong.1 (subst PassesCatalog (sym (ap (page (new_file g pages)) wrong.0 ∙ page_is g pages 9 role.Boot (omega (arith, low)) (boot_role g)))
      (passes_empty (new_header (new_type role.Boot) 9) content_size (length-new_header (new_type role.Boot) 9)))

  -- what extent e shows
  clean_page : (e p : ℕ) → 8 * e < pages → p / 8 ≡ e → IsCleanPage g (extent_of g (new_file g pages) e) p
  clean_page e p inside at =
      let whole = shape.whole in
      let byte = pfs_is g pages p shape (omega (arith, inside, at, whole)) in record {
        role = λ kind is. subst (λ b. Fits b kind) (sym byte) (fits_role (role_of g p) kind is);
        one = λ u v is other. absurd (no_use p u is);
        unowned = λ ordinary unused unmarked. byte ∙ ap (λ r. expected (unwrap_or (kind_of_role r) kinds.Unused) 0) (ordinary_role (role_of g p) ordinary);
      }

  free_apart : (e : ℕ) → 8 * e < pages → IsTrue (is_free g (new_file g pages) e) → IsNewFree g pages e
  free_apart e inside free = new_free g pages e (sym (free_is g pages e shape inside) ∙ free)

  mixed_boot : (e : ℕ) → 8 * e < pages → IsTrue (is_mixed g (new_file g pages) e) → e ≡ 1
  mixed_boot e inside mixed = eqb-true e 1 (sym (mixed_is g pages e shape inside) ∙ mixed)

  -- an extent that is mixed is extent 1
  claims_boot : (e : ℕ) → 8 * e < pages → IsMixed e (extent_of g (new_file g pages) e) → e ≡ 1
  claims_boot e inside (inl (inl used)) = absurd (no_use used.0 used.2.0 used.2.1)
  claims_boot e inside (inl (inr boot)) = boot
  claims_boot e inside (inr mixed) = mixed_boot e inside mixed.0

  clean_extent : (e : ℕ) → 8 * e < pages → IsCleanExtent g e (extent_of g (new_file g pages) e)
  clean_extent e inside = record {
    one_map = λ free mixed. (free_apart e inside free).boot (mixed_boot e inside mixed);
    one_marker = λ o q is other. absurd (no_mark e o is);
    claimed = λ free mixed system unused unmarked.
        true≢false (sym (free_is g pages e shape inside ∙ is_new_free_if g pages e inside (λ boot. unused (inr boot)) system) ∙ free);
    system_free = λ system free. true≢false (sym system ∙ (free_apart e inside free).system);
    system_mixed = λ system mixed. true≢false (sym system ∙ ap (is_system_extent g) (claims_boot e inside mixed) ∙ boot_extent g);
    system_marked = λ system marked. no_mark e marked.0 marked.1;
    free_mixed = λ free mixed. (free_apart e inside free).boot (claims_boot e inside mixed);
    free_marked = λ free marked. no_mark e marked.0 marked.1;
    mixed_marked = λ mixed marked. no_mark e marked.0 marked.1;
    pages = λ p at. clean_page e p inside at;
  }

  within : (e : ℕ) → e < extent_count (new_file g pages) → 8 * e < pages
  within e inside =
      let count = length-new_file g pages in
      omega (arith, count, inside)

  clean_part : (resource : Resource) → IsCleanPart g (new_file g pages) resource
  clean_part Catalog = system_sound
  clean_part (Extent e) = λ inside. clean_extent e.0 (within e.0 inside)
  clean_part (Table o) = λ row is id. absurd (no_object row is)
  clean_part (Byte p) = tt
  clean_part (Page p) = tt

  exact : (e : ℕ) → 8 * e < pages → IsSgamExact g (new_file g pages) e
  exact e inside = record {
    open_page = λ mixed.
        let low = shape.low in
        let byte = pfs_is g pages 8 shape (omega (arith, low)) ∙ ap (λ r. expected (unwrap_or (kind_of_role r) kinds.Unused) 0) (page_eight g) in
        (8, sym (mixed_boot e inside mixed), ap is_for_objects (page_eight g), ap (λ b. eqb (b / 64 % 2) 1) byte);
    mixed = λ holds some. mixed_is g pages e shape inside ∙ eq-eqb e 1 (claims_boot e inside (inl holds));
  }

pub new_file_is_clean : NewFileIsClean
new_file_is_clean g pages shape = clean_part g pages shape

pub new_file_holds_nothing : NewFileHoldsNothing
new_file_holds_nothing g pages shape = holds_nothing g pages shape

pub new_sgam_is_exact : NewSgamIsExact
new_sgam_is_exact g pages shape e inside = exact g pages shape e (within g pages shape e inside)
