-- The errors of uses and of PFS bytes can be listed.
use Rattle.std.proofs.Common.{◌≡◌, ℕ, ◌/◌, ◌%◌, length, IsTrue, refl, sym, subst, inl, inr}
use Rattle.spec_file.specs.declared.geometry.Geometry.{Geometry}
use Rattle.spec_file.specs.declared.pfs.PfsKind.{PfsKind}
use Rattle.spec_file.specs.declared.pfs.PfsKind.TheVariants as kinds
use Rattle.spec_file.specs.Image.{Image}
use Rattle.spec_file.specs.Roles.{role_of, is_ordinary}
use Rattle.spec_file.specs.Pfs.{expected}
use Rattle.spec_file.specs.Iam.{single_slot_count}
use Rattle.spec_chain.specs.Uses.{Use, IsUse, pfs_byte, is_allocated}
use Rattle.spec_check.specs.Pages.{lost_page, IsUnowned, IsLostPage, two_uses, HasTwoUses, kind_of_role, IsKindOfUse, IsKindOfMark, IsTestedByRole, IsTestedByUse, IsTestedByMark, IsTestedAlone, IsTestedAs, wrong_byte, HasWrongFlags, MayHoldRows, HasWrongFullness}
use Rattle.spec_check.specs.Allocation.{IsUseError, IsAllocationError}
use Rattle.law_report.proofs.Decisions.{dec_not, dec_and, dec_and3, dec_true, dec_false, dec_eq, dec_ne, dec_lt}
use Rattle.law_report.proofs.Listings.{Listing, like, one, either, when, among, beside, numbers, there_may_be, two_or_more}
use Rattle.law_report.proofs.Uses.{markers, uses, use_lists, dec_has_marker, dec_has_use}
use Rattle.law_report.proofs.ChainRules.{chain_errors}
use Rattle.law_report.proofs.Extents.{extent_errors}

dec_unowned : (g : Geometry) (image : Image) (p : ℕ) → Dec (IsUnowned g image p)
dec_unowned g image p = dec_and (dec_not (dec_has_use g image p)) (dec_not (dec_has_marker g image (p / 8)))

lost_pages : (g : Geometry) (image : Image) → Listing (IsLostPage g image)
lost_pages g image = like
    (among (numbers (length image)) (λ p low. when
    (dec_and3 (dec_true (is_ordinary g p)) (dec_true (is_allocated g image p)) (dec_unowned g image p)) (one (lost_page p (pfs_byte g image p)))))
    (λ x h. (h.0, h.1, h.2.0.0, h.2.0.1, h.2.0.2, h.2.1)) (λ x h. (h.0, h.1, ((h.2, h.3, h.4), h.5)))

with_two_uses : (g : Geometry) (image : Image) → Listing (HasTwoUses g image)
with_two_uses g image = like
    (among (numbers (length image)) (λ p low. among (use_lists g image p) (λ list are.
    two_or_more (λ first second. two_uses p first second (length list)) list)))
    (λ x h. (h.0, h.1, h.2.0, h.2.1, h.2.2)) (λ x h. (h.0, h.1, (h.2, h.3, h.4)))

-- an object and a kind for which a PFS byte is tested
abbrev Tested : Type 0
Tested = ℕ × PfsKind

by_role : (g : Geometry) (p : ℕ) → Listing (λ (t : Tested). IsTestedByRole g p t.0 t.1)
by_role g p = like (beside (one 0) (λ o is. there_may_be (kind_of_role (role_of g p)))) (λ t h. (h.1, h.0)) (λ t h. (h.1, h.0))

kinds_of_use : (place : ℕ) → Listing (IsKindOfUse place)
kinds_of_use place = either (when (dec_lt place single_slot_count) (one kinds.Single)) (when (dec_eq place single_slot_count) (one kinds.Iam))

by_use : (g : Geometry) (image : Image) (p : ℕ) → Listing (λ (t : Tested). IsTestedByUse g image p t.0 t.1)
by_use g image p = like
    (when (dec_true (is_ordinary g p)) (among (uses g image p) (λ u is. among (kinds_of_use u.place) (λ kind of. one (u.object, kind))))) to
    (λ t h. (h.0, (record { object = t.0; place = h.1 }, h.2, (t.1, h.3, refl)))) where
      to : (t : Tested) → IsTrue (is_ordinary g p) × ((u : Use) × IsUse g image p u × ((kind : PfsKind) × IsKindOfUse u.place kind × (t ≡ (u.object, kind))))
          → IsTestedByUse g image p t.0 t.1
      to t h = subst (λ (s : Tested). IsTestedByUse g image p s.0 s.1) (sym h.1.2.2) (h.0, h.1.0.place, h.1.1, h.1.2.1)

kinds_of_mark : (g : Geometry) (image : Image) (p : ℕ) → Listing (IsKindOfMark g image p)
kinds_of_mark g image p = either (when (dec_true (is_allocated g image p)) (one kinds.Uniform)) (when (dec_false (is_allocated g image p)) (one kinds.Unused))

by_mark : (g : Geometry) (image : Image) (p : ℕ) → Listing (λ (t : Tested). IsTestedByMark g image p t.0 t.1)
by_mark g image p = like
    (when (dec_true (is_ordinary g p)) (beside (markers g image (p / 8)) (λ o is. kinds_of_mark g image p)))
    (λ t h. (h.0, h.1.0, h.1.1)) (λ t h. (h.0, (h.1, h.2)))

alone : (g : Geometry) (image : Image) (p : ℕ) → Listing (λ (t : Tested). IsTestedAlone g image p t.0 t.1)
alone g image p = like
    (when (dec_and3 (dec_true (is_ordinary g p)) (dec_false (is_allocated g image p)) (dec_unowned g image p)) (beside (one 0) (λ o is. one kinds.Unused)))
    (λ t h. (h.0.0, h.0.1, h.0.2, h.1.0, h.1.1)) (λ t h. ((h.0, h.1, h.2), (h.3, h.4)))

tested : (g : Geometry) (image : Image) (p : ℕ) → Listing (λ (t : Tested). IsTestedAs g image p t.0 t.1)
tested g image p = either (by_role g p) (either (by_use g image p) (either (by_mark g image p) (alone g image p)))

with_wrong_flags : (g : Geometry) (image : Image) → Listing (HasWrongFlags g image)
with_wrong_flags g image = like
    (among (numbers (length image)) (λ p low. among (tested g image p) (λ t is.
    when (dec_ne (pfs_byte g image p / 8) (expected t.1 0 / 8)) (one (wrong_byte 8948 t.0 p (pfs_byte g image p))))))
    (λ x h. (h.0, h.1, h.2.0.0, h.2.0.1, h.2.1, h.2.2.0, h.2.2.1)) (λ x h. (h.0, h.1, ((h.2, h.3), h.4, (h.5, h.6))))

dec_may_hold_rows : (kind : PfsKind) → Dec (MayHoldRows kind)
dec_may_hold_rows kinds.Single = yes (inl refl)
dec_may_hold_rows kinds.Uniform = yes (inr refl)
dec_may_hold_rows kinds.System = no (λ h. elim h [ inl e ↦ cc | inr e ↦ cc ])
dec_may_hold_rows kinds.Reserved = no (λ h. elim h [ inl e ↦ cc | inr e ↦ cc ])
dec_may_hold_rows kinds.Boot = no (λ h. elim h [ inl e ↦ cc | inr e ↦ cc ])
dec_may_hold_rows kinds.Iam = no (λ h. elim h [ inl e ↦ cc | inr e ↦ cc ])
dec_may_hold_rows kinds.Unused = no (λ h. elim h [ inl e ↦ cc | inr e ↦ cc ])

with_wrong_fullness : (g : Geometry) (image : Image) → Listing (HasWrongFullness g image)
with_wrong_fullness g image = like
    (among (numbers (length image)) (λ p low. among (tested g image p) (λ t is.
    when (dec_and (dec_not (dec_may_hold_rows t.1)) (dec_ne (pfs_byte g image p % 8) (expected t.1 0 % 8)))
    (one (wrong_byte 8914 t.0 p (pfs_byte g image p))))))
    (λ x h. (h.0, h.1, h.2.0.0, h.2.0.1, h.2.1, h.2.2.0.0, h.2.2.0.1, h.2.2.1)) (λ x h. (h.0, h.1, ((h.2, h.3), h.4, ((h.5, h.6), h.7))))

use_errors : (g : Geometry) (image : Image) → Listing (IsUseError g image)
use_errors g image =
    either (lost_pages g image) (either (with_two_uses g image) (either (with_wrong_flags g image) (with_wrong_fullness g image)))

pub allocation_errors : (g : Geometry) (image : Image) → Listing (IsAllocationError g image)
allocation_errors g image = either (chain_errors g image) (either (extent_errors g image) (use_errors g image))
