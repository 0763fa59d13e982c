-- What the rules of extents say of an extent's state is what they say of the image.
use Rattle.std.proofs.Common.{◌≡◌, ◌⊎◌, ◌↔◌, ℕ, ◌<◌, ◌==◌, ◌&&◌, ◌||◌, Bool, true, false, not, nat_lt, IsTrue, List, length, sym, subst, ap, ◌∙◌, refl, inl, inr, ⊎_elim}
use Rattle.std.specs.Ordering.{nat_cmp}
use Rattle.std.proofs.lemmas.Bool.{and_parts, and_from, or_parts, or_from, or_cases, or_left, or_right, not-true, not_from_false, false_from_ne_true, ltb-true, lt-ltb}
use Rattle.std.proofs.lemmas.Cmp.{nat_cmp_total}
use Rattle.spec_file.specs.declared.geometry.Geometry.{Geometry}
use Rattle.spec_file.specs.Image.{Image}
use Rattle.spec_file.specs.Places.{is_free, is_mixed, extent_count}
use Rattle.spec_file.specs.Roles.{is_system_extent}
use Rattle.spec_chain.specs.Marks.{AreMarkers}
use Rattle.spec_check.specs.declared.report.CheckError.{CheckError}
use Rattle.spec_check.specs.Allocation.{IsExtentError}
use Rattle.spec_check.specs.Maps.{GivesTwoMarkers, HoldsUse, HasNoClaim, IsLost, AreClaims, claim_count, two_claims, HasTwoClaims}
use Rattle.ck_alloc.specs.declared.extents.ExtentState.{ExtentState}
use Rattle.spec_check.specs.declared.claims.Claims.{Claims}
use Rattle.ck_alloc.specs.ExtentRules.{claims_of, has_no_claim, LostSays, ClaimsSay, ExtentSays}
use Rattle.spec_check.proofs.Members.{none_there, none_from, sorted_same}

-- the state of an extent of an image
abbrev pub seen_extent : Geometry → Image → ℕ → Bool → ExtentState
seen_extent g image e used = record {
  extent = e;
  free = is_free g image e;
  mixed = is_mixed g image e;
  system = is_system_extent g e;
  used = used;
}

-- an extent has one list of markers
pub one_marker_list : (g : Geometry) (image : Image) (e : ℕ) (ids others : List ℕ) → AreMarkers g image e ids → AreMarkers g image e others → others ≡ ids
one_marker_list g image e ids others a b =
    sorted_same nat_cmp nat_cmp_total others ids b.sorted a.sorted (λ o. (λ h. a.complete o (b.sound o h), λ h. b.complete o (a.sound o h)))

lost_parts : (f m s u z : Bool) → IsTrue (not (f || m) && not (s || u) && z)
    → ((f ≡ false) × (m ≡ false)) × (((s ≡ false) × (u ≡ false)) × IsTrue z)
lost_parts f m s u z h =
    let outer = and_parts (not (f || m) && not (s || u)) z h in
    let inner = and_parts (not (f || m)) (not (s || u)) outer.0 in
    (or_parts f m (not-true (f || m) inner.0), (or_parts s u (not-true (s || u) inner.1), outer.1))

lost_from : (f m s u z : Bool) → f ≡ false → m ≡ false → s ≡ false → u ≡ false → IsTrue z → IsTrue (not (f || m) && not (s || u) && z)
lost_from f m s u z a b c d k =
    and_from (not (f || m) && not (s || u)) z
    (and_from (not (f || m)) (not (s || u)) (not_from_false (f || m) (or_from f m a b)) (not_from_false (s || u) (or_from s u c d))) k

lost_there : (g : Geometry) (image : Image) (e : ℕ) (used : Bool) (ids : List ℕ) (x : CheckError) → e < extent_count image
    → IsTrue used ↔ HoldsUse g image e → AreMarkers g image e ids → LostSays (seen_extent g image e used) ids x → IsLost g image x
lost_there g image e used ids x below held are (none, is) =
    let parts = lost_parts (is_free g image e) (is_mixed g image e) (is_system_extent g e) used (length ids == 0) none in (
      e,
      below,
      record {
        free = parts.0.0;
        mixed = parts.0.1;
        system = parts.1.0.0;
        uses = λ h. let yes_used : used ≡ true = held.1 h in let no_used : used ≡ false = parts.1.0.1 in clash used yes_used no_used;
        marks = λ h. none_there ids h.0 parts.1.1 (are.complete h.0 h.1);
      },
      is,
    ) where
      clash : (b : Bool) → b ≡ true → b ≡ false → ⊥
      clash b p q = cc

lost_back : (g : Geometry) (image : Image) (e : ℕ) (used : Bool) (ids : List ℕ) → IsTrue used ↔ HoldsUse g image e → AreMarkers g image e ids
    → HasNoClaim g image e → IsTrue (has_no_claim (seen_extent g image e used) ids)
lost_back g image e used ids held are nobody =
    lost_from (is_free g image e) (is_mixed g image e) (is_system_extent g e) used (length ids == 0) nobody.free nobody.mixed nobody.system
    (false_from_ne_true used (λ h. nobody.uses (held.0 h))) (none_from ids (λ o h. nobody.marks (o, are.sound o h)))

-- the claim of single pages
mixed_iff : (f m used : Bool) (Held : Type 0) → IsTrue used ↔ Held → IsTrue (used || (m && not f)) ↔ (Held ⊎ (IsTrue m × (f ≡ false)))
mixed_iff f m used Held held = (
  λ h. ⊎_elim (λ u. inl (held.0 u)) (λ r. let p = and_parts m (not f) r in inr (p.0, not-true f p.1)) (or_cases used (m && not f) h),
  λ h. ⊎_elim (λ u. or_left used (m && not f) (held.1 u)) (λ r. or_right used (m && not f) (and_from m (not f) r.0 (not_from_false f r.1))) h,
)

claims_are : (g : Geometry) (image : Image) (e : ℕ) (used : Bool) (ids : List ℕ) → IsTrue used ↔ HoldsUse g image e
    → AreClaims g image e ids (claims_of (seen_extent g image e used) ids)
claims_are g image e used ids held = record {
  system = refl;
  free = refl;
  mixed = mixed_iff (is_free g image e) (is_mixed g image e) used (HoldsUse g image e) held;
  marked = refl;
}

both_ways : (a b : Bool) → (IsTrue a → IsTrue b) → (IsTrue b → IsTrue a) → a ≡ b
both_ways true true f h = refl
both_ways true false f h = sym (f refl)
both_ways false true f h = h refl
both_ways false false f h = refl

abbrev made_of : Bool → Bool → Bool → Bool → Claims
made_of s f m k = record { system = s; free = f; mixed = m; marked = k }

four_same : (a b : Claims) → a.system ≡ b.system → a.free ≡ b.free → a.mixed ≡ b.mixed → a.marked ≡ b.marked → a ≡ b
four_same a b s f m k =
    ap (λ t. made_of t a.free a.mixed a.marked) s ∙ (ap (λ t. made_of b.system t a.mixed a.marked) f
    ∙ (ap (λ t. made_of b.system b.free t a.marked) m ∙ ap (λ t. made_of b.system b.free b.mixed t) k))

pub one_claims : (g : Geometry) (image : Image) (e : ℕ) (ids : List ℕ) (a b : Claims) → AreClaims g image e ids a → AreClaims g image e ids b → a ≡ b
one_claims g image e ids a b p q =
    four_same a b (p.system ∙ sym q.system) (p.free ∙ sym q.free) (both_ways a.mixed b.mixed (λ h. q.mixed.1 (p.mixed.0 h)) (λ h. p.mixed.1 (q.mixed.0 h)))
    (p.marked ∙ sym q.marked)

claims_there : (g : Geometry) (image : Image) (e : ℕ) (used : Bool) (ids : List ℕ) (x : CheckError) → e < extent_count image
    → IsTrue used ↔ HoldsUse g image e → AreMarkers g image e ids → ClaimsSay (seen_extent g image e used) ids x → HasTwoClaims g image x
claims_there g image e used ids x below held are (two, is) = (
  e,
  below,
  ids,
  are,
  claims_of (seen_extent g image e used) ids,
  claims_are g image e used ids held,
  ltb-true 1 (claim_count (claims_of (seen_extent g image e used) ids)) two,
  is,
)

claims_back : (g : Geometry) (image : Image) (e : ℕ) (used : Bool) (ids : List ℕ) (claims : Claims) (x : CheckError) → IsTrue used ↔ HoldsUse g image e
    → AreClaims g image e ids claims → 1 < claim_count claims → x ≡ two_claims e ids claims → ClaimsSay (seen_extent g image e used) ids x
claims_back g image e used ids claims x held are two is =
    let same = one_claims g image e ids claims (claims_of (seen_extent g image e used) ids) are (claims_are g image e used ids held) in
    (subst (λ c. nat_lt 1 (claim_count c) ≡ true) same (lt-ltb 1 (claim_count claims) two), is ∙ ap (two_claims e ids) same)

-- from the state to the image
pub extent_there : (g : Geometry) (image : Image) (e : ℕ) (used : Bool) (ids : List ℕ) (x : CheckError) → e < extent_count image
    → IsTrue used ↔ HoldsUse g image e → AreMarkers g image e ids → ExtentSays (seen_extent g image e used) ids x → IsExtentError g image x
extent_there g image e used ids x below held are says = ⊎_elim
    (λ both. let parts = and_parts (is_free g image e) (is_mixed g image e) both.0 in inl (e, below, parts.0, parts.1, both.1))
    (λ rest. ⊎_elim (λ two. inr (inl (e, below, ids, are, two)))
    (λ rest. ⊎_elim (λ lost. inr (inr (inl (lost_there g image e used ids x below held are lost))))
    (λ claims. inr (inr (inr (claims_there g image e used ids x below held are claims)))) rest) rest) says

-- the map's states of all extents of the image
pub record ShowsExtents (g : Geometry) (image : Image) (used : ℕ → Bool) (ids : ℕ → List ℕ) : Type 0 where
  pub held : (e : ℕ) → IsTrue (used e) ↔ HoldsUse g image e
  pub markers : (e : ℕ) → e < extent_count image → AreMarkers g image e (ids e)

-- an error of some extent's state
abbrev pub SomeExtentSays : (g : Geometry) (image : Image) (used : ℕ → Bool) (ids : ℕ → List ℕ) → CheckError → Type 0
SomeExtentSays g image used ids x = (e : ℕ) × (e < extent_count image) × ExtentSays (seen_extent g image e (used e)) (ids e) x

-- from the image to the state
pub extent_back : (g : Geometry) (image : Image) (used : ℕ → Bool) (ids : ℕ → List ℕ) (x : CheckError) → ShowsExtents g image used ids
    → IsExtentError g image x → SomeExtentSays g image used ids x
extent_back g image used ids x shows h = ⊎_elim
    (λ both. (both.0, both.1, inl (and_from (is_free g image both.0) (is_mixed g image both.0) both.2 both.3, both.4)))
    (λ rest. ⊎_elim
    (λ two. (two.0, two.1, inr (inl (subst (λ l. GivesTwoMarkers two.0 l x) (one_marker_list g image two.0 (ids two.0) two.2 (shows.markers two.0 two.1) two.3) two.4))))
    (λ rest. ⊎_elim
    (λ lost. (lost.0, lost.1, inr (inr (inl (lost_back g image lost.0 (used lost.0) (ids lost.0) (shows.held lost.0) (shows.markers lost.0 lost.1) lost.2, lost.3)))))
    (λ two. (
      two.0,
      two.1,
      inr (inr (inr (subst (λ l. ClaimsSay (seen_extent g image two.0 (used two.0)) l x)
          (one_marker_list g image two.0 (ids two.0) two.2 (shows.markers two.0 two.1) two.3)
          (claims_back g image two.0 (used two.0) two.2 two.4 x (shows.held two.0) two.5 two.6 two.7)))),
    ))
    rest) rest) h
