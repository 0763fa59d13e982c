-- The status of a run that doesn't begin, by what stops it.
use Rattle.run_file.specs.declared.stop.SourcesStop.{SourcesStop}
use Rattle.run_file.specs.declared.stop.SourcesStop.TheVariants as sources
use Rattle.run_file.specs.declared.why.FileStop.{FileStop}
use Rattle.run_file.specs.declared.why.FileStop.TheVariants as file
use Rattle.run_file.specs.declared.log.LogWhy.{LogWhy}
use Rattle.run_file.specs.declared.log.LogWhy.TheVariants as log
use Rattle.checkdb_top.specs.declared.status.Device.TheVariants as device
use Rattle.checkdb_top.specs.declared.status.Status.{Status}
use Rattle.checkdb_top.specs.declared.status.Status.TheVariants as status

abbrev pub sources_start : SourcesStop → Status
sources_start (sources.Fault k line why) = status.Script k line why
sources_start sources.Failed = status.Device device.Source
sources_start sources.NoMemory = status.Memory

abbrev pub file_start : FileStop → Status
file_start (file.Refused why) = status.File why
file_start file.Failed = status.Device device.Volume
file_start file.NoMemory = status.Memory

abbrev pub log_start : LogWhy → Status
log_start log.Size = status.LogSize
log_start log.Later = status.LogLater
log_start log.Failed = status.Device device.Log
log_start log.NoMemory = status.Memory
