-- The errors of extents can be listed.
use Rattle.std.proofs.Common.{◌≡◌, ◌↔◌, ℕ, ◌+◌, ◌*◌, ◌/◌, ◌==◌, length, List, Bool, true, false, not, IsTrue, arith, refl, sym, subst}
use Rattle.spec_file.specs.declared.geometry.Geometry.{Geometry}
use Rattle.spec_file.specs.Image.{Image}
use Rattle.spec_file.specs.Places.{is_free, is_mixed, extent_count}
use Rattle.spec_file.specs.Roles.{is_system_extent}
use Rattle.spec_check.specs.Maps.{both_maps, HasBothMaps, two_markers, HasTwoMarkers, HoldsUse, lost_extent, IsLost, IsMixed, AreClaims, claim_count, two_claims, HasTwoClaims}
use Rattle.spec_check.specs.Allocation.{IsExtentError}
use Rattle.law_report.proofs.Decisions.{dec_like, dec_not, dec_and, dec_and3, dec_or, dec_true, dec_false, dec_eq, dec_lt}
use Rattle.law_report.proofs.Listings.{Listing, like, only, one, either, when, among, numbers, two_or_more, dec_exists}
use Rattle.law_report.proofs.Uses.{marker_lists, dec_has_marker, dec_has_use}

in_both_maps : (g : Geometry) (image : Image) → Listing (HasBothMaps g image)
in_both_maps g image = like
    (among (numbers (extent_count image)) (λ e low. when (dec_and (dec_true (is_free g image e)) (dec_true (is_mixed g image e))) (one (both_maps e))))
    (λ x h. (h.0, h.1, h.2.0.0, h.2.0.1, h.2.1)) (λ x h. (h.0, h.1, ((h.2, h.3), h.4)))

with_two_markers : (g : Geometry) (image : Image) → Listing (HasTwoMarkers g image)
with_two_markers g image = like
    (among (numbers (extent_count image)) (λ e low. among (marker_lists g image e) (λ ids are.
    two_or_more (λ first second. two_markers e first second (length ids)) ids)))
    (λ x h. (h.0, h.1, h.2.0, h.2.1, h.2.2)) (λ x h. (h.0, h.1, (h.2, h.3, h.4)))

dec_holds_use : (g : Geometry) (image : Image) (e : ℕ) → Dec (HoldsUse g image e)
dec_holds_use g image e = dec_or
    (dec_like (λ h. (h.0, h.2.0, h.2.1)) (λ h. let within = h.1 in (h.0, omega (arith, within), (h.1, h.2)))
    (dec_exists (numbers (8 * e + 8)) (λ p low. dec_and (dec_eq (p / 8) e) (dec_has_use g image p))))
    (dec_eq e 1)

lost_extents : (g : Geometry) (image : Image) → Listing (IsLost g image)
lost_extents g image = like
    (among (numbers (extent_count image)) (λ e low. when
    (dec_and (dec_and3 (dec_false (is_free g image e)) (dec_false (is_mixed g image e)) (dec_false (is_system_extent g e)))
    (dec_and (dec_not (dec_holds_use g image e)) (dec_not (dec_has_marker g image e)))) (one (lost_extent e))))
    (λ x h. (h.0, h.1, record { free = h.2.0.0.0; mixed = h.2.0.0.1; system = h.2.0.0.2; uses = h.2.0.1.0; marks = h.2.0.1.1 }, h.2.1))
    (λ x h. (h.0, h.1, (((h.2.free, h.2.mixed, h.2.system), (h.2.uses, h.2.marks)), h.3)))

dec_mixed : (g : Geometry) (image : Image) (e : ℕ) → Dec (IsMixed g image e)
dec_mixed g image e = dec_or (dec_holds_use g image e) (dec_and (dec_true (is_mixed g image e)) (dec_false (is_free g image e)))

-- a test that tells whether a decided statement holds
test_of : {A : Type 0} → Dec A → (b : Bool) × (IsTrue b ↔ A)
test_of (yes a) = (true, (λ h. a, λ h. refl))
test_of (no h) = (false, (λ e. absurd (cc), λ a. absurd (h a)))

same_test : (a b : Bool) → (IsTrue a → IsTrue b) → (IsTrue b → IsTrue a) → a ≡ b
same_test true b to from = sym (to refl)
same_test false true to from = from refl
same_test false false to from = refl

-- the claims of an extent are one record
claims : (g : Geometry) (image : Image) (e : ℕ) (ids : List ℕ) → Listing (AreClaims g image e ids)
claims g image e ids =
    let mixed = test_of (dec_mixed g image e) in
    only (record { system = is_system_extent g e; free = is_free g image e; mixed = mixed.0; marked = not (length ids == 0) })
    (record { system = refl; free = refl; mixed = mixed.1; marked = refl })
    (λ c are.
    let same : c.mixed ≡ mixed.0 = same_test c.mixed mixed.0 (λ h. mixed.1.1 (are.mixed.0 h)) (λ h. are.mixed.1 (mixed.1.0 h)) in
    subst (λ s. c ≡ record { system = s; free = is_free g image e; mixed = mixed.0; marked = not (length ids == 0) }) are.system
    (subst (λ f. c ≡ record { system = c.system; free = f; mixed = mixed.0; marked = not (length ids == 0) }) are.free
    (subst (λ m. c ≡ record { system = c.system; free = c.free; mixed = m; marked = not (length ids == 0) }) same
    (subst (λ k. c ≡ record { system = c.system; free = c.free; mixed = c.mixed; marked = k }) are.marked refl))))

with_two_claims : (g : Geometry) (image : Image) → Listing (HasTwoClaims g image)
with_two_claims g image = like
    (among (numbers (extent_count image)) (λ e low. among (marker_lists g image e) (λ ids are. among (claims g image e ids) (λ c have.
    when (dec_lt 1 (claim_count c)) (one (two_claims e ids c))))))
    (λ x h. (h.0, h.1, h.2.0, h.2.1, h.2.2.0, h.2.2.1, h.2.2.2.0, h.2.2.2.1))
    (λ x h. (h.0, h.1, (h.2, h.3, (h.4, h.5, (h.6, h.7)))))

pub extent_errors : (g : Geometry) (image : Image) → Listing (IsExtentError g image)
extent_errors g image =
    either (in_both_maps g image) (either (with_two_markers g image) (either (lost_extents g image) (with_two_claims g image)))
