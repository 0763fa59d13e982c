-- What a run begins with, and where its sessions stand when all are done.
use Rattle.std.specs.Prelude.{◌≡◌, ℕ, ◌<◌, ◌≤◌, ◌^◌, All, List, [], ◌++◌, length, map}
use Rattle.spec_file.specs.Image.{Image}
use Rattle.spec_script.specs.declared.statement.Statement.{Statement}
use Rattle.spec_script.specs.declared.reply.Reply.{Reply}
use Rattle.spec_log.specs.Cells.{HasWholePages}
use Rattle.spec_run.specs.Begun.{Setting}
use Rattle.spec_run.specs.Entries.{Entry}
use Rattle.spec_run.specs.Turns.{IsWhole, Run}
use Rattle.spec_run.specs.Bounds.{TurnsLeft, RunWithin}
use Rattle.spec_file.specs.Places.{HasShape}
use Rattle.spec_run.specs.Schedules.{rest_from, turns_of}
use Rattle.spec_run.specs.Openings.{geometry_said, setting_of}
use Rattle.law_run.specs.Laws.{IsStart}
use Rattle.db_core.specs.States.{Db}
use Rattle.spec_start.specs.Sources.{AreShort, AreTurnsOf}
use Rattle.checkdb_top.specs.declared.start.Start.{Start}
use Rattle.checkdb_top.specs.Runs.{AreStatements}

-- the scripts of a run
abbrev pub scripts_of : Start → List (List Statement)
scripts_of start = map (λ script. script.items) start.texts.scripts.items

-- the sessions may begin
pub record MayBegin (start : Start) : Type 0 where
  pub whole : HasWholePages start.frames
  pub shape : HasShape (geometry_said start.frames) (length start.frames)
  pub few : length start.texts.scripts.items ≤ 16
  pub short : AreShort (scripts_of start)
  pub proper : AreStatements (scripts_of start)
  pub inside : AreTurnsOf (length start.texts.scripts.items) start.texts.schedule.items

-- turns have made the history, from its beginning
abbrev pub IsMade : Setting → List Entry → Type 0
IsMade run entries = (turns : List ℕ) × Run run [] turns entries

-- the sessions have had their turns and are done
pub record IsOver (image : Image) (turns : List (ℕ × ℕ)) (scripts : List (List Statement)) (core : Db) : Type 0 where
  pub run : core.run ≡ setting_of image scripts
  pub start : IsStart core.run
  pub counts : List ℕ
  pub rest : length counts ≡ length scripts
  pub left : TurnsLeft
  pub after : TurnsLeft
  pub taken : RunWithin core.run left [] (turns_of turns ++ rest_from 1 counts) after core.entries
  pub whole : IsWhole core.run core.entries

-- the replies of each session can be numbered
abbrev pub AreFew : List (List Reply) → Type 0
AreFew replies = All (λ session. length session < 2 ^ 32) replies
