-- What a call that only reads leaves of a data file.
use Rattle.std.specs.Prelude.{◌≡◌}
use Rattle.pg_base.specs.Faults.{Counts}
use Rattle.vol_dev.specs.declared.device.Volume.{Ghosts}

-- its bytes stay, and its count of faults has risen where the call's answer blames it
pub record ReadsFile {X : Type 0} (v : Ghosts X) (old new : X) (Blames : Type 0) : Type 0 where
  pub contents : v.contents new ≡ v.contents old
  pub faults : Counts Blames (v.faults old) (v.faults new)
