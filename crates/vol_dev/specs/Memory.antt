-- What the devices in memory hold.
use Rattle.std.specs.Prelude.{ℕ, List, drop}
use Rattle.vol_dev.specs.declared.memory.MemVolume.{MemVolume}
use Rattle.vol_dev.specs.declared.memory.MemLog.{MemLog}
use Rattle.vol_dev.specs.declared.memory.MemSource.{MemSource}
use Rattle.vol_dev.specs.declared.memory.MemSink.{MemSink}

abbrev pub volume_bytes : MemVolume → List ℕ
volume_bytes volume = volume.bytes.items

abbrev pub log_bytes : MemLog → List ℕ
log_bytes log = log.bytes.items

-- the bytes that a source has left
abbrev pub source_bytes : MemSource → List ℕ
source_bytes source = drop source.taken source.bytes.items

abbrev pub sink_bytes : MemSink → List ℕ
sink_bytes sink = sink.bytes.items
