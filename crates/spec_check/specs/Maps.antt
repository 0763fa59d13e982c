-- The rules of extents: what GAM, SGAM, uses and marks say of one extent.
use Rattle.std.specs.Prelude.{◌≡◌, ◌⊎◌, ◌↔◌, ℕ, ◌+◌, ◌*◌, ◌/◌, ◌<◌, ◌==◌, Bool, false, not, IsTrue, if◌then◌else◌, List, [], ◌∷◌, length}
use Rattle.spec_file.specs.declared.geometry.Geometry.{Geometry}
use Rattle.spec_file.specs.Image.{Image}
use Rattle.spec_file.specs.Places.{is_free, is_mixed, extent_count}
use Rattle.spec_file.specs.Roles.{is_system_extent}
use Rattle.spec_chain.specs.Marks.{AreMarkers, HasMarker}
use Rattle.spec_chain.specs.Uses.{HasUse}
use Rattle.spec_check.specs.declared.report.CheckError.{CheckError}
use Rattle.spec_check.specs.declared.claims.Claims.{Claims}

-- 8903, with the extent's first page
abbrev pub both_maps : ℕ → CheckError
both_maps e = record { number = 8903; object = 0; page = 8 * e; other = 0; slot = 0; value = 0 }

-- an extent of the file is marked in GAM, as free, and in SGAM, as mixed
abbrev pub HasBothMaps : Geometry → Image → CheckError → Type 0
HasBothMaps g image x =
    (e : ℕ) × (e < extent_count image) × IsTrue (is_free g image e) × IsTrue (is_mixed g image e) × (x ≡ both_maps e)

-- 8904, with the two lowest objects that mark the extent, and how many do
abbrev pub two_markers : ℕ → ℕ → ℕ → ℕ → CheckError
two_markers e first second count =
    record { number = 8904; object = first; page = 8 * e; other = second; slot = 0; value = count }

-- the ids are two or more
abbrev pub GivesTwoMarkers : ℕ → List ℕ → CheckError → Type 0
GivesTwoMarkers e ids x =
    (first second : ℕ) × (rest : List ℕ) × (ids ≡ first ∷ second ∷ rest) × (x ≡ two_markers e first second (length ids))

-- two objects mark an extent of the file
abbrev pub HasTwoMarkers : Geometry → Image → CheckError → Type 0
HasTwoMarkers g image x =
    (e : ℕ) × (e < extent_count image) × (ids : List ℕ) × AreMarkers g image e ids × GivesTwoMarkers e ids x

-- a page of the extent has a use, or is the boot page
abbrev pub HoldsUse : Geometry → Image → ℕ → Type 0
HoldsUse g image e = ((p : ℕ) × (p / 8 ≡ e) × HasUse g image p) ⊎ (e ≡ 1)

-- 8905
abbrev pub lost_extent : ℕ → CheckError
lost_extent e = record { number = 8905; object = 0; page = 8 * e; other = 0; slot = 0; value = 0 }

-- nothing claims an extent: it is neither free nor mixed nor a system extent, and nobody uses a page of it or
-- marks it
pub record HasNoClaim (g : Geometry) (image : Image) (e : ℕ) : Type 0 where
  pub free : is_free g image e ≡ false
  pub mixed : is_mixed g image e ≡ false
  pub system : is_system_extent g e ≡ false
  pub uses : HoldsUse g image e → ⊥
  pub marks : HasMarker g image e → ⊥

abbrev pub IsLost : Geometry → Image → CheckError → Type 0
IsLost g image x = (e : ℕ) × (e < extent_count image) × HasNoClaim g image e × (x ≡ lost_extent e)

-- the extent is mixed: a page of it has a use, or SGAM alone marks it
abbrev pub IsMixed : Geometry → Image → ℕ → Type 0
IsMixed g image e = HoldsUse g image e ⊎ (IsTrue (is_mixed g image e) × (is_free g image e ≡ false))

-- what claims an extent: the system, the free space, single pages, and objects that mark it
pub record AreClaims (g : Geometry) (image : Image) (e : ℕ) (ids : List ℕ) (claims : Claims) : Type 0 where
  pub system : claims.system ≡ is_system_extent g e
  pub free : claims.free ≡ is_free g image e
  pub mixed : IsTrue claims.mixed ↔ IsMixed g image e
  pub marked : claims.marked ≡ not (length ids == 0)

abbrev pub worth : ℕ → Bool → ℕ
worth n claimed = if claimed then n else 0

abbrev pub claim_count : Claims → ℕ
claim_count c = worth 1 c.system + worth 1 c.free + worth 1 c.mixed + worth 1 c.marked

abbrev pub claim_sum : Claims → ℕ
claim_sum c = worth 1 c.system + worth 2 c.free + worth 4 c.mixed + worth 8 c.marked

-- the lowest of rising ids, 0 for none
abbrev pub lowest : List ℕ → ℕ
lowest [] = 0
lowest (first ∷ rest) = first

-- 8913, with the lowest object that marks the extent, and the sum of the claims
abbrev pub two_claims : ℕ → List ℕ → Claims → CheckError
two_claims e ids claims =
    record { number = 8913; object = lowest ids; page = 8 * e; other = 0; slot = 0; value = claim_sum claims }

-- an extent of the file has more than one claim
abbrev pub HasTwoClaims : Geometry → Image → CheckError → Type 0
HasTwoClaims g image x =
    (e : ℕ) × (e < extent_count image) × (ids : List ℕ) × AreMarkers g image e ids
    × (claims : Claims) × AreClaims g image e ids claims × (1 < claim_count claims) × (x ≡ two_claims e ids claims)
