-- What the rules of extents say of one extent, by what the maps hold of it.
use Rattle.std.specs.Prelude.{◌≡◌, ◌⊎◌, ℕ, ◌==◌, ◌&&◌, ◌||◌, Bool, not, nat_lt, IsTrue, List, length}
use Rattle.spec_check.specs.declared.report.CheckError.{CheckError}
use Rattle.spec_check.specs.declared.claims.Claims.{Claims}
use Rattle.spec_check.specs.Maps.{both_maps, GivesTwoMarkers, lost_extent, claim_count, two_claims}
use Rattle.ck_alloc.specs.declared.extents.ExtentState.{ExtentState}

-- what the extent is claimed by
abbrev pub claims_of : ExtentState → List ℕ → Claims
claims_of s ids = record {
  system = s.system;
  free = s.free;
  mixed = s.used || (s.mixed && not s.free);
  marked = not (length ids == 0);
}

-- nothing claims the extent
abbrev pub has_no_claim : ExtentState → List ℕ → Bool
has_no_claim s ids = not (s.free || s.mixed) && not (s.system || s.used) && (length ids == 0)

abbrev pub has_two_claims : ExtentState → List ℕ → Bool
has_two_claims s ids = nat_lt 1 (claim_count (claims_of s ids))

abbrev pub BothSay : ExtentState → CheckError → Type 0
BothSay s x = IsTrue (s.free && s.mixed) × (x ≡ both_maps s.extent)

abbrev pub LostSays : ExtentState → List ℕ → CheckError → Type 0
LostSays s ids x = IsTrue (has_no_claim s ids) × (x ≡ lost_extent s.extent)

abbrev pub ClaimsSay : ExtentState → List ℕ → CheckError → Type 0
ClaimsSay s ids x = IsTrue (has_two_claims s ids) × (x ≡ two_claims s.extent ids (claims_of s ids))

-- an error of the extent that these ids mark
abbrev pub ExtentSays : ExtentState → List ℕ → CheckError → Type 0
ExtentSays s ids x = BothSay s x ⊎ (GivesTwoMarkers s.extent ids x ⊎ (LostSays s ids x ⊎ ClaimsSay s ids x))
