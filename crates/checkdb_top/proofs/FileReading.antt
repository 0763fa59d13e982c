-- What reading the pages of a file through a reader leaves of the file.
use Rattle.std.proofs.Common.{◌≡◌, ℕ, ◌*◌, ◌≤◌, Bool, Option, Some, option_map, length}
use Rattle.std.specs.Option.{ForSome}
use Rattle.spec_file.specs.Image.{pages_of}
use Rattle.pg_base.specs.Faults.{Rose}
use Rattle.pg_base.specs.Stops.{StopsFor}
use Rattle.pg_base.specs.declared.reader.ReadStop.{ReadStop}
use Rattle.pg_base.specs.declared.reader.ReadStop.TheVariants.{Fault, Ended, NoMemory}
use Rattle.vol_dev.specs.declared.device.Volume.{Ghosts}
use Rattle.vol_dev.specs.Files.{ReadsFile}
use Rattle.checkdb_top.specs.declared.status.Device.TheVariants as device
use Rattle.checkdb_top.specs.Answers.{IsDevice, stopped}
use Rattle.checkdb_top.specs.WholeFiles.{same_contents}

module _ {X : Type 0} (v : Ghosts X) (old new : X) (m n : ℕ) (whole : ForSome (v.contents old) (λ bytes. length bytes ≡ 8192 * m))
    (whole_new : ForSome (v.contents new) (λ bytes. length bytes ≡ 8192 * n)) (same : option_map pages_of (v.contents new) ≡ option_map pages_of (v.contents old))
    (later : v.faults old ≤ v.faults new) where
  -- it isn't blamed
  pub read_through : (Blames : Type 0) → (Blames → ⊥) → ReadsFile v old new Blames
  read_through Blames none = record {
    contents = same_contents (v.contents old) (v.contents new) m n whole whole_new same;
    faults = record { cause = λ blames. absurd (none blames); later = later };
  }

  -- it is blamed where a read of it failed
  pub stopped_reading : (x y : Option ℕ) (ended : Bool) (stop : ReadStop) → StopsFor (v.faults old) (v.faults new) x y ended (Some stop)
      → ReadsFile v old new (IsDevice device.Volume (stopped stop))
  stopped_reading x y ended stop stops = record {
    contents = same_contents (v.contents old) (v.contents new) m n whole whole_new same;
    faults = record { cause = cause stop stops; later = later };
  }
    where
      cause : (s : ReadStop) → StopsFor (v.faults old) (v.faults new) x y ended (Some s) → IsDevice device.Volume (stopped s) → Rose (v.faults old) (v.faults new)
      cause (Fault q) stops is = stops.rose
      cause Ended stops is = absurd is
      cause NoMemory stops is = absurd is
