-- Where reading a text stops, from where reading its source does.
use Rattle.run_file.specs.declared.stop.SourceStop.{SourceStop}
use Rattle.run_file.specs.declared.stop.SourceStop.TheVariants as source
use Rattle.std.specs.Prelude.{ℕ}
use Rattle.run_file.specs.declared.stop.SourcesStop.{SourcesStop}
use Rattle.run_file.specs.declared.stop.SourcesStop.TheVariants as sources
use Rattle.run_file.specs.declared.stop.TextStop.{TextStop}
use Rattle.run_file.specs.declared.stop.TextStop.TheVariants as text

abbrev pub text_stop : SourceStop → TextStop
text_stop source.Failed = text.Failed
text_stop source.NoMemory = text.NoMemory

-- the same of source k
abbrev pub sources_stop : ℕ → TextStop → SourcesStop
sources_stop k (text.Fault line why) = sources.Fault k line why
sources_stop k text.Failed = sources.Failed
sources_stop k text.NoMemory = sources.NoMemory
