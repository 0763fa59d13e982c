-- Which device is blamed for a run that doesn't begin.
use Rattle.std.proofs.Common.{◌≢◌, ℕ, List, Option, Err, refl, sym}
use Rattle.std.specs.Prelude.{IsErrOf}
use Rattle.run_file.specs.Log.{LogFault}
use Rattle.run_file.specs.Opening.{FileFault}
use Rattle.spec_start.specs.Sources.{HasFailedSource}
use Rattle.run_file.specs.Sources.{SourcesFault}
use Rattle.run_file.specs.declared.stop.SourcesStop.{SourcesStop}
use Rattle.run_file.specs.declared.stop.SourcesStop.TheVariants as sources
use Rattle.run_file.specs.declared.why.FileStop.{FileStop}
use Rattle.run_file.specs.declared.why.FileStop.TheVariants as file
use Rattle.run_file.specs.declared.log.LogWhy.{LogWhy}
use Rattle.run_file.specs.declared.log.LogWhy.TheVariants as log
use Rattle.checkdb_top.specs.declared.status.Device.{Device}
use Rattle.checkdb_top.specs.declared.status.Device.TheVariants as device
use Rattle.checkdb_top.specs.Answers.{IsDevice}
use Rattle.checkdb_top.specs.Start.{HaveTexts, IsTaken, StopsStart}
use Rattle.checkdb_top.specs.StartStops.{sources_start, file_start, log_start}

pub sources_apart : (d : Device) (stop : SourcesStop) → d ≢ device.Source → IsDevice d (sources_start stop) → ⊥
sources_apart d (sources.Fault k line why) other is = is
sources_apart d sources.Failed other is = other (sym is)
sources_apart d sources.NoMemory other is = is

pub file_apart : (d : Device) (stop : FileStop) → d ≢ device.Volume → IsDevice d (file_start stop) → ⊥
file_apart d (file.Refused why) other is = is
file_apart d file.Failed other is = other (sym is)
file_apart d file.NoMemory other is = is

pub log_apart : (d : Device) (stop : LogWhy) → d ≢ device.Log → IsDevice d (log_start stop) → ⊥
log_apart d log.Size other is = is
log_apart d log.Later other is = is
log_apart d log.Failed other is = other (sym is)
log_apart d log.NoMemory other is = is

pub file_blames : {T : Type 0} (stop : FileStop) → IsDevice device.Volume (file_start stop) → IsErrOf {T = T} (Err stop) file.Failed
file_blames (file.Refused why) is = absurd is
file_blames file.Failed is = refl
file_blames file.NoMemory is = absurd is

pub log_blames : {T : Type 0} (stop : LogWhy) → IsDevice device.Log (log_start stop) → IsErrOf {T = T} (Err stop) log.Failed
log_blames log.Size is = absurd is
log_blames log.Later is = absurd is
log_blames log.Failed is = refl
log_blames log.NoMemory is = absurd is

-- what is said of a run that doesn't begin
module _ (lefts : List (Option (List ℕ))) (file_told log_told : Option (List ℕ)) where
  pub sources_stop : (before now : List ℕ) (stop : SourcesStop) → SourcesFault {T = Unit {0}} lefts before now (Err stop)
      → StopsStart lefts file_told log_told (sources_start stop)
  sources_stop before now (sources.Fault k line why) fault = fault
  sources_stop before now sources.Failed fault = tt
  sources_stop before now sources.NoMemory fault = tt

  pub file_stop : (stop : FileStop) → HaveTexts lefts → FileFault {T = Unit {0}} file_told (Err stop) → StopsStart lefts file_told log_told (file_start stop)
  file_stop (file.Refused why) texts fault = (texts, fault)
  file_stop file.Failed texts fault = texts
  file_stop file.NoMemory texts fault = tt

  pub log_stop : (stop : LogWhy) → HaveTexts lefts → IsTaken file_told → LogFault {T = Unit {0}} log_told (Err stop)
      → StopsStart lefts file_told log_told (log_start stop)
  log_stop log.Size texts form fault = (texts, form, fault)
  log_stop log.Later texts form fault = (texts, form, fault)
  log_stop log.Failed texts form fault = (texts, form)
  log_stop log.NoMemory texts form fault = tt

-- and where a source failed
pub sources_blame : (lefts : List (Option (List ℕ))) (before now : List ℕ) (stop : SourcesStop) → SourcesFault {T = Unit {0}} lefts before now (Err stop)
    → IsDevice device.Source (sources_start stop) → HasFailedSource lefts before now
sources_blame lefts before now (sources.Fault k line why) fault is = absurd is
sources_blame lefts before now sources.Failed fault is = fault
sources_blame lefts before now sources.NoMemory fault is = absurd is
