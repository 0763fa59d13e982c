-- All errors of the allocation rules, but those of a fullness that rests on a page's rows.
use Rattle.std.specs.Prelude.{◌⊎◌}
use Rattle.spec_file.specs.declared.geometry.Geometry.{Geometry}
use Rattle.spec_file.specs.Image.{Image}
use Rattle.spec_check.specs.declared.report.CheckError.{CheckError}
use Rattle.spec_check.specs.Maps.{HasBothMaps, HasTwoMarkers, IsLost, HasTwoClaims}
use Rattle.spec_check.specs.Pages.{IsLostPage, HasTwoUses, HasWrongFlags, HasWrongFullness}
use Rattle.spec_check.specs.Chains.{IsChainError}

abbrev pub IsExtentError : Geometry → Image → CheckError → Type 0
IsExtentError g image x = HasBothMaps g image x ⊎ (HasTwoMarkers g image x ⊎ (IsLost g image x ⊎ HasTwoClaims g image x))

abbrev pub IsUseError : Geometry → Image → CheckError → Type 0
IsUseError g image x = IsLostPage g image x ⊎ (HasTwoUses g image x ⊎ (HasWrongFlags g image x ⊎ HasWrongFullness g image x))

abbrev pub IsAllocationError : Geometry → Image → CheckError → Type 0
IsAllocationError g image x = IsChainError g image x ⊎ (IsExtentError g image x ⊎ IsUseError g image x)
