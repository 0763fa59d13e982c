-- Which status a check or a run ends with where no device fails.
use Rattle.std.specs.Prelude.{◌≡◌, ◌≢◌, ◌⊎◌, ℕ, ◌<◌, ◌≤◌, false, List, [], length, Option, Some}
use Rattle.spec_file.specs.Image.{Image, pages_of}
use Rattle.spec_file.specs.FileForm.{size_passes}
use Rattle.spec_start.specs.declared.why.FileWhy.{FileWhy}
use Rattle.spec_start.specs.declared.why.FileWhy.TheVariants.{Size}
use Rattle.spec_log.specs.declared.limits.TheConstants.{LONGEST_LOG}
use Rattle.spec_start.specs.Files.{IsRefusedForRun, IsRunFile}
use Rattle.spec_start.specs.Sources.{IsFirstOf}
use Rattle.spec_script.specs.declared.stop.ScriptWhy.{ScriptWhy}
use Rattle.checkdb_top.specs.declared.status.Status.{Status}
use Rattle.checkdb_top.specs.declared.status.Status.TheVariants as status
use Rattle.checkdb_top.specs.Form.{IsRefusedFor, Passes}
use Rattle.checkdb_top.specs.Answers.{Printing, ended}
use Rattle.checkdb_top.specs.Start.{HaveTexts}

-- this status, or want of memory
abbrev pub IsOrMemory : Status → Status → Type 0
IsOrMemory expected s = (s ≡ expected) ⊎ (s ≡ status.Memory)

-- the status says of an image what it has, or that it has none
pub data Tells (c : Printing) (image : Image) (s : Status) : Type 0 where
  OfValue : (x : c.Value) → c.Has x image → s ≡ ended (c.tells_error x) → Tells c image s
  OfNone : (at : ℕ) → c.word ≡ Some at → ((x : c.Value) → c.Has x image → ⊥) → s ≡ status.Words at → Tells c image s

-- a file of a wrong size is refused for that; one that is refused for anything else, and one that passes its tests,
-- ends a command so unless memory runs out
pub record Completes (c : Printing) (file : List ℕ) (s : Status) : Type 0 where
  pub size : size_passes (length file) ≡ false → s ≡ status.File Size
  pub refused : (why : FileWhy) → IsRefusedFor why file → IsOrMemory (status.File why) s
  pub passes : Passes file → Tells c (pages_of file) s ⊎ (s ≡ status.Memory)

-- the status of a run that is closed whole, with each check's report or want of memory
abbrev pub IsWholeEnd : Status → Type 0
IsWholeEnd s = ((s ≡ status.Clean) ⊎ (s ≡ status.Errors)) ⊎ (s ≡ status.Memory)

-- a run ends by the first that is wrong of its sources, its file and its log, and where nothing is wrong it is closed
-- whole, unless memory runs out
pub record CompletesRun (lefts : List (Option (List ℕ))) (bytes log : List ℕ) (s : Status) : Type 0 where
  pub script : (k line : ℕ) (why : ScriptWhy) → IsFirstOf lefts k line why → IsOrMemory (status.Script k line why) s
  pub refused : HaveTexts lefts → (why : FileWhy) → IsRefusedForRun why bytes → IsOrMemory (status.File why) s
  pub long : HaveTexts lefts → IsRunFile bytes → LONGEST_LOG < length log → IsOrMemory status.LogSize s
  pub later : HaveTexts lefts → IsRunFile bytes → log ≢ [] → length log ≤ LONGEST_LOG → IsOrMemory status.LogLater s
  pub runs : HaveTexts lefts → IsRunFile bytes → log ≡ [] → IsWholeEnd s
