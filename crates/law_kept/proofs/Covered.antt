-- What changes under resources is at most what they guard.
use Rattle.std.proofs.Common.{◌≡◌, ◌≢◌, ℕ, ◌+◌, ◌/◌, ◌<◌, ◌≤◌, ◌==◌, ◌&&◌, leb, Bool, true, false, not, List, [], length, Option, Some, None, refl, sym, ap, subst, ◌∙◌, inl, inr, ⊎_elim, arith, eqb-true}
use Rattle.std.specs.Prelude.{bytes_eq, if◌then◌else◌, IsSomeAnd, slice_index}
use Rattle.std.specs.Int.{bit_at}
use Rattle.std.proofs.lemmas.Bool.{and_from, cases_Bool, cases_eq, cases_lt, lt-leb, not-false, not_from_false}
use Rattle.std.proofs.lemmas.List.{get_or_past}
use Rattle.std.proofs.lemmas.Nat.Bits.{same_from_bits_below}
use Rattle.std.proofs.lemmas.Slice.Eq.{bytes_eq-Decides}
use Rattle.spec_file.specs.declared.data.Resource.{Resource}
use Rattle.spec_file.specs.declared.data.Resource.TheVariants as resource
use Rattle.spec_file.specs.declared.geometry.Geometry.{Geometry}
use Rattle.spec_file.specs.declared.role.Role.{Role}
use Rattle.spec_file.specs.declared.role.Role.TheVariants as role
use Rattle.spec_file.specs.Header.{page_type, page_id, says}
use Rattle.spec_file.specs.Image.{Image, page, maps_start}
use Rattle.spec_file.specs.Places.{Place, bit_of, gam_place, sgam_place}
use Rattle.spec_file.specs.Roles.{role_of, system_type, is_ordinary, is_system_extent, is_pfs_page, is_gam_page, is_sgam_page}
use Rattle.spec_chain.specs.Uses.{pfs_byte}
use Rattle.spec_log.specs.Cells.{map_bit}
use Rattle.spec_log.specs.Cover.{byte_guard, byte_guard_by, pfs_guard, paged_at}
use Rattle.spec_words.specs.NetChanges.{FileShape, is_turned, is_byte_changed}
use Rattle.spec_words.specs.Takes.{is_among}
use Rattle.spec_steps.specs.AtMost.{IsWhole, AtMost}
use Rattle.law_extents.proofs.GoodKinds.{role_by}
use Rattle.law_net.specs.Files.{IsGuardedBy, DifferUnder}
use Rattle.law_net.proofs.Images.{AreImages, are_images}
use Rattle.law_net.proofs.Under.{taken_byte, taken_page, taken_catalog, taken_gam, taken_sgam}
use Rattle.law_kept.specs.Covered.{guarded_by, CoveredIsAtMost}
use Rattle.law_kept.proofs.EntryPages.{number_same}

-- the header of a page with maps has no guard
low_pfs : (g : Geometry) (pages q at : ℕ) → at < maps_start → pfs_guard g pages q at ≡ None
low_pfs g pages q at low = below (leb maps_start at) _ _ (lt-leb maps_start at low)
  where
    below : (a b c : Bool) → a ≡ false → (if a && b && c then Some (resource.Byte (record { 0 = paged_at q at })) else None) ≡ None
    below false b c e = refl
    below true b c e = absurd (cc)

header_guard : (r : Role) (g : Geometry) (pages q at type : ℕ) → at < maps_start → r ≢ role.Boot → system_type r ≡ Some type → byte_guard_by r g pages q at ≡ None
header_guard role.Pfs g pages q at type low other is = low_pfs g pages q at low
header_guard role.Gam g pages q at type low other is = refl
header_guard role.Sgam g pages q at type low other is = refl
header_guard role.Boot g pages q at type low other is = absurd (other refl)
header_guard role.FileHeader g pages q at type low other is = absurd (cc)
header_guard role.Reserved g pages q at type low other is = absurd (cc)
header_guard role.Ordinary g pages q at type low other is = absurd (cc)

-- only page 9 has the role of the boot page
boot_only : (header pfs gam sgam boot system : Bool) → role_by header pfs gam sgam boot system ≡ role.Boot → boot ≡ true
boot_only true pfs gam sgam boot system is = absurd (cc)
boot_only false true gam sgam boot system is = absurd (cc)
boot_only false false true sgam boot system is = absurd (cc)
boot_only false false false true boot system is = absurd (cc)
boot_only false false false false true system is = refl
boot_only false false false false false true is = absurd (cc)
boot_only false false false false false false is = absurd (cc)

in_none : (b : Bool) (o : Option Resource) → o ≡ None → (if b then o else None) ≡ None
in_none true o none = none
in_none false o none = refl

module _ (shape : FileShape) (taken : List Resource) (start now : Image) (images : AreImages shape start now) (under : DifferUnder shape taken start now) where
  -- a bit of a map whose extent isn't taken
  bit_same : (place : Place) → (is_turned start now place ≡ true → ⊥) → bit_of now place ≡ bit_of start place
  bit_same place none = ⊎_elim (λ turned. absurd (none turned))
      (λ same. ap (λ b. b == 1) (sym (eqb-true (map_bit (page start place.page) place.at) (map_bit (page now place.page) place.at)
      (not-false (map_bit (page start place.page) place.at == map_bit (page now place.page) place.at) same)))) (cases_Bool (is_turned start now place))

  byte_same : (p : ℕ) → (is_byte_changed shape.geometry start now p ≡ true → ⊥) → pfs_byte shape.geometry now p ≡ pfs_byte shape.geometry start p
  byte_same p none = ⊎_elim (λ changed. absurd (none changed))
      (λ same. sym (eqb-true (pfs_byte shape.geometry start p) (pfs_byte shape.geometry now p) (not-false (pfs_byte shape.geometry start p == pfs_byte shape.geometry now p) same)))
      (cases_Bool (is_byte_changed shape.geometry start now p))

  bytes_same : (q : ℕ) → (bytes_eq (page start q) (page now q) ≡ false → ⊥) → page now q ≡ page start q
  bytes_same q none = ⊎_elim (λ same. sym ((bytes_eq-Decides (page start q) (page now q)).0 same)) (λ differ. absurd (none differ)) (cases_Bool (bytes_eq (page start q) (page now q)))

  -- a page that statements write as a whole
  page_same : (q : ℕ) → q < shape.pages → IsWhole shape.geometry q → ((guarded_by taken).pages q → ⊥) → page now q ≡ page start q
  page_same q low (inl nine) none = subst (λ r. page now r ≡ page start r) (sym nine) (bytes_same 9 (λ differ. none (inr (nine, taken_catalog shape taken start now images under differ))))
  page_same q low (inr ordinary) none = bytes_same q (λ differ. none (inl (taken_page shape taken start now images under q low
      (and_from (is_ordinary shape.geometry q) (not (bytes_eq (page start q) (page now q))) ordinary (not_from_false (bytes_eq (page start q) (page now q)) differ)))))

  -- a byte of a header that nothing guards
  header_same : (q i type : ℕ) → q < shape.pages → i < maps_start → role_of shape.geometry q ≢ role.Boot → system_type (role_of shape.geometry q) ≡ Some type
      → slice_index (page start q) i ≡ slice_index (page now q) i
  header_same q i type low head other is =
      same_from_bits_below 8 (slice_index (page start q) i) (slice_index (page now q) i) (images.old_bytes q i) (images.new_bytes q i) (λ j few.
      ⊎_elim (λ same. same) (λ differ. absurd (unguarded j (under q i j low (omega (arith, head)) few differ)))
      (cases_eq (bit_at (slice_index (page start q) i) j) (bit_at (slice_index (page now q) i) j)))
    where
      unguarded : (j : ℕ) → IsGuardedBy (λ r. is_among taken r ≡ true) shape q i j → ⊥
      unguarded j (inl h) =
          let none : byte_guard shape.geometry shape.pages q i ≡ None =
          in_none _ (byte_guard_by (role_of shape.geometry q) shape.geometry shape.pages q i) (header_guard (role_of shape.geometry q) shape.geometry shape.pages q i type head other is) in
          subst (λ o. IsSomeAnd o (λ r. is_among taken r ≡ true)) none h
      unguarded j (inr h) = let behind = h.0 in omega (arith, behind, head)

  says_same : (q type : ℕ) → q < shape.pages → role_of shape.geometry q ≢ role.Boot → system_type (role_of shape.geometry q) ≡ Some type → says type q (page now q) ≡ says type q (page start q)
  says_same q type low other is =
      let byte = λ (i : ℕ) (head : i < maps_start). header_same q i type low head other is in
      let kind : page_type (page now q) ≡ page_type (page start q) = sym (byte 1 (omega arith)) in
      let number : page_id (page now q) ≡ page_id (page start q) = number_same 4 4 (page now q) (page start q) (λ k few. sym (byte (4 + k) (omega (arith, few)))) in
      ap (λ t. (t == type) && (page_id (page now q) == q)) kind ∙ ap (λ n. (page_type (page start q) == type) && (n == q)) number

  at_most_guarded : AtMost shape.geometry (guarded_by taken) start now
  at_most_guarded = record {
    size = images.new_pages ∙ sym images.old_pages;
    free = λ e low none. bit_same (gam_place shape.geometry e) (λ turned. none (taken_gam shape taken start now images under e (in_extents e low) turned));
    mixed = λ e low none. bit_same (sgam_place shape.geometry e) (λ turned. none (taken_sgam shape taken start now images under e (in_extents e low) turned));
    bytes = λ p low none. byte_same p (λ changed. none (taken_byte shape taken start now images under p (in_pages p low) changed));
    pages = λ q whole none. ⊎_elim (λ low. page_same q low whole none)
        (λ high. get_or_past now q [] (subst (λ n. n ≤ q) (sym images.new_pages) high) ∙ sym (get_or_past start q [] (subst (λ n. n ≤ q) (sym images.old_pages) high))) (cases_lt q shape.pages);
    system = λ q type low none is. ⊎_elim
        (λ nine. ap (says type q) (page_same q (in_pages q low) (inl nine) none))
        (λ other. says_same q type (in_pages q low) (not_boot q other) is) (cases_eq q 9);
  }
    where
      in_extents : (e : ℕ) → e < length start / 8 → e < shape.pages / 8
      in_extents e low = subst (λ n. e < n / 8) images.old_pages low

      in_pages : (q : ℕ) → q < length start → q < shape.pages
      in_pages q low = subst (λ n. q < n) images.old_pages low

      not_boot : (q : ℕ) → q ≢ 9 → role_of shape.geometry q ≢ role.Boot
      not_boot q other is = other (eqb-true q 9 (boot_only (q == 0) (is_pfs_page shape.geometry q) (is_gam_page shape.geometry q) (is_sgam_page shape.geometry q) (q == 9)
          (is_system_extent shape.geometry (q / 8)) is))

pub covered_is_at_most : CoveredIsAtMost
covered_is_at_most shape taken start now a b under = at_most_guarded shape taken start now (are_images shape start now a b) under
