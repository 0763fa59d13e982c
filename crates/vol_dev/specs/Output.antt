-- What a call that writes leaves of an output.
use Rattle.std.specs.Prelude.{ℕ, Bool, IsTrue, List}
use Rattle.pg_base.specs.Faults.{Counts}
use Rattle.vol_dev.specs.declared.device.Sink.{Ghosts}
use Rattle.vol_dev.specs.Devices.{Grows}

-- these bytes were written; or the call failed, and then a front of them was, and the output's count of faults rose
pub record Wrote {X : Type 0} (k : Ghosts X) (old new : X) (bytes : List ℕ) (failed : Bool) : Type 0 where
  pub grows : Grows (k.contents old) (k.contents new) bytes failed
  pub faults : Counts (IsTrue failed) (k.faults old) (k.faults new)
