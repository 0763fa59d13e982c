-- What a run begins with, and why it doesn't begin.
use Rattle.std.specs.Prelude.{◌≡◌, ◌≢◌, ℕ, ◌<◌, ◌≤◌, List, [], length, Option, IfSome, ⊤}
use Rattle.spec_file.specs.Image.{Image}
use Rattle.spec_script.specs.declared.statement.Statement.{Statement}
use Rattle.checkdb_top.specs.declared.status.Device.TheVariants as device
use Rattle.checkdb_top.specs.declared.status.Status.{Status}
use Rattle.checkdb_top.specs.declared.status.Status.TheVariants as status
use Rattle.spec_start.specs.Sources.{AreProper, AreShort, AreTexts, AreTurnsOf, IsFirstOf}
use Rattle.spec_start.specs.Files.{AreAllPages, IsRefusedForRun, IsRunFile, IsRunImage}
use Rattle.spec_log.specs.declared.limits.TheConstants.{LONGEST_LOG}

abbrev pub IsEmptyLog : List ℕ → Type 0
IsEmptyLog bytes = bytes ≡ []

-- what a run of so many sessions begins with: the texts of its sources, the pages of its file, which passes its tests and has no
-- clustered table, and an empty log
pub record Begins (sessions : ℕ) (lefts : List (Option (List ℕ))) (file log : Option (List ℕ)) (turns : List (ℕ × ℕ)) (scripts : List (List Statement))
    (image : Image) : Type 0 where
  pub texts : AreTexts lefts turns scripts
  pub count : length scripts ≡ sessions
  pub short : AreShort scripts
  pub proper : AreProper scripts
  pub inside : AreTurnsOf sessions turns
  pub passes : IsRunImage image
  pub pages : IfSome file (AreAllPages image)
  pub empty : IfSome log IsEmptyLog

-- all sources are texts, where they are told
abbrev pub HaveTexts : List (Option (List ℕ)) → Type 0
HaveTexts lefts = (turns : List (ℕ × ℕ)) × (scripts : List (List Statement)) × AreTexts lefts turns scripts

-- a told file is one that a run takes
abbrev pub IsTaken : Option (List ℕ) → Type 0
IsTaken told = IfSome told IsRunFile

-- what the status of a run that doesn't begin says of the sources, the file and the log: the first source that is
-- wrong; else why the file is refused; else why the log isn't taken
abbrev pub StopsStart : List (Option (List ℕ)) → Option (List ℕ) → Option (List ℕ) → Status → Type 0
StopsStart lefts told log_told (status.Script k line why) = IsFirstOf lefts k line why
StopsStart lefts told log_told (status.File why) = HaveTexts lefts × IfSome told (IsRefusedForRun why)
StopsStart lefts told log_told status.LogSize =
    HaveTexts lefts × IsTaken told × IfSome log_told (λ bytes. LONGEST_LOG < length bytes)
StopsStart lefts told log_told status.LogLater =
    HaveTexts lefts × IsTaken told × IfSome log_told (λ bytes. (bytes ≢ []) × (length bytes ≤ LONGEST_LOG))
StopsStart lefts told log_told (status.Device device.Source) = ⊤
StopsStart lefts told log_told (status.Device device.Volume) = HaveTexts lefts
StopsStart lefts told log_told (status.Device device.Log) = HaveTexts lefts × IsTaken told
StopsStart lefts told log_told (status.Device device.Sink) = ⊥
StopsStart lefts told log_told status.Memory = ⊤
StopsStart lefts told log_told status.Clean = ⊥
StopsStart lefts told log_told status.Errors = ⊥
StopsStart lefts told log_told (status.Words at) = ⊥
StopsStart lefts told log_told status.NoReport = ⊥
