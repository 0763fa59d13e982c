-- The exit status of the program (this project's own).
use Rattle.std.specs.Prelude.{ℕ}
use Rattle.checkdb_top.specs.declared.status.Status.{Status}
use Rattle.checkdb_top.specs.declared.status.Status.TheVariants.{Clean, Errors, Words, Script, File, LogSize, LogLater, Device, Memory, NoReport}

abbrev pub code_of : Status → ℕ
code_of Clean = 0
code_of Errors = 1
code_of (Words at) = 2
code_of (Script script line why) = 3
code_of (File why) = 4
code_of LogSize = 4
code_of LogLater = 4
code_of (Device which) = 5
code_of Memory = 6
code_of NoReport = 7
