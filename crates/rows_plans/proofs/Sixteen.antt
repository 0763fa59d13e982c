-- A file of sixteen pages.
use Rattle.std.proofs.Common.{◌≡◌, ℕ, sym, subst, arith}
use Rattle.spec_file.specs.declared.geometry.Geometry.{Geometry}
use Rattle.spec_file.specs.declared.geometry.Geometry.TheVariants.{Standard, Small}
use Rattle.spec_file.specs.Places.{HasShape}

-- it is inside the limits of both geometries
pub sixteen : (g : Geometry) (pages : ℕ) → pages ≡ 16 → HasShape g pages
sixteen Standard pages count = subst (HasShape Standard) (sym count) (record { low = omega arith; high = omega arith; whole = omega arith })
sixteen Small pages count = subst (HasShape Small) (sym count) (record { low = omega arith; high = omega arith; whole = omega arith })
