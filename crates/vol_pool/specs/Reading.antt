-- Where reading the pages of a file stops.
use Rattle.std.specs.Prelude.{ℕ, ◌<◌, Option, Some, None, ⊤}
use Rattle.pg_base.specs.declared.reader.ReadStop.{ReadStop}
use Rattle.pg_base.specs.declared.reader.ReadStop.TheVariants.{Fault, Ended, NoMemory}
use Rattle.vol_dev.specs.declared.device.Volume.{Ghosts}
use Rattle.vol_dev.specs.Files.{ReadsFile}

-- the stop blames the file
abbrev pub IsFault : Option ReadStop → Type 0
IsFault (Some (Fault q)) = ⊤
IsFault (Some Ended) = ⊥
IsFault (Some NoMemory) = ⊥
IsFault None = ⊥

-- a fault names one of so many pages; nothing ends; want of memory is free
abbrev pub IsWithin : ℕ → Option ReadStop → Type 0
IsWithin pages (Some (Fault q)) = q.0 < pages
IsWithin pages (Some Ended) = ⊥
IsWithin pages (Some NoMemory) = ⊤
IsWithin pages None = ⊤

-- what reading some of the first so many pages leaves of a file, with the cause of a stop
pub record ReadsPages {X : Type 0} (v : Ghosts X) (pages : ℕ) (old new : X) (end : Option ReadStop) : Type 0 where
  pub reads : ReadsFile v old new (IsFault end)
  pub within : IsWithin pages end
