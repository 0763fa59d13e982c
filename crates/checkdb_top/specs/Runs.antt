-- How a run of sessions ends (this project's own).
use Rattle.std.specs.Prelude.{◌≡◌, ℕ, ◌-◌, ◌<◌, ◌==◌, Bool, false, if◌then◌else◌, IsTrue, All, List, [], ◌++◌, length, get_or, Option, IfSome}
use Rattle.std.specs.List.{list_any, list_all, zip}
use Rattle.std.specs.Io.KnownBytes.{IsAtEnd}
use Rattle.spec_file.specs.Image.{Image, page}
use Rattle.spec_log.specs.declared.item.Record.{Record}
use Rattle.spec_log.specs.Bytes.{log_bytes}
use Rattle.spec_log.specs.Images.{final_image}
use Rattle.spec_script.specs.declared.limits.TheConstants.{NO_MEMORY}
use Rattle.spec_script.specs.declared.statement.Statement.{Statement}
use Rattle.spec_script.specs.declared.statement.Statement.TheVariants.{Check}
use Rattle.spec_script.specs.declared.reply.Reply.{Reply}
use Rattle.spec_script.specs.declared.reply.Reply.TheVariants.{Report, Refused}
use Rattle.spec_script.specs.Lines.{is_statement}
use Rattle.spec_script.specs.Replies.{text_of}
use Rattle.spec_run.specs.Begun.{Setting}
use Rattle.spec_run.specs.Entries.{Entry, items_of}
use Rattle.spec_run.specs.Progress.{script_of}
use Rattle.spec_run.specs.Sessions.{placed_of}
use Rattle.spec_run.specs.Turns.{AreTold, told_to, IsLegalRun, IsSession, IsWhole}
use Rattle.spec_run.specs.Bounds.{TurnsLeft, RunWithin}
use Rattle.spec_run.specs.ChangedPages.{is_changed}
use Rattle.law_shape.specs.Answered.{AreAnswered}
use Rattle.spec_run.specs.Answers.{is_terminated}
use Rattle.spec_run.specs.Schedules.{rest_from, turns_of}
use Rattle.spec_run.specs.Openings.{setting_of}
use Rattle.spec_start.specs.Sources.{AreTexts}
use Rattle.spec_start.specs.Files.{AreAllPages, IsRunImage}
use Rattle.checkdb_top.specs.Answers.{ended}
use Rattle.checkdb_top.specs.Printings.{is_some_error}
use Rattle.checkdb_top.specs.Start.{IsEmptyLog, StopsStart}
use Rattle.checkdb_top.specs.Writes.{Writes}
use Rattle.checkdb_top.specs.declared.status.Status.{Status}
use Rattle.checkdb_top.specs.declared.status.Status.TheVariants as status

-- a check that was answered with 701
abbrev pub is_short : Statement → Reply → Bool
is_short (Check workers) (Refused refusal) = refusal.number == NO_MEMORY
is_short (Check workers) other = false
is_short other reply = false

-- such a check is among a session's statements, of which each finished one has its reply
abbrev pub has_short : List Statement × List Reply → Bool
has_short session = list_any (λ p. is_short p.0 p.1) (zip session.0 session.1)

-- a report that holds an error
abbrev pub has_errors : Reply → Bool
has_errors (Report lsn report) = is_some_error report.errors
has_errors other = false

-- the status of a run with these scripts and these replies, session by session
abbrev pub ended_as : List (List Statement) → List (List Reply) → Status
ended_as scripts replies =
    if list_any (list_any is_terminated) replies then status.NoReport
    else (if list_any has_short (zip scripts replies) then status.Memory else ended (list_any (list_any has_errors) replies))

-- the replies of session s, from 1
abbrev pub replies_to : List (List Reply) → ℕ → List Reply
replies_to replies s = get_or replies (s - 1) []

-- each session has the replies that it was told, in order
abbrev pub AreAllTold : Setting → List Record → (ℕ → List Reply) → Type 0
AreAllTold run log replies = (s : ℕ) → IsSession run s → AreTold run.geometry (told_to run s log) (replies s)

-- all statements are of the language
abbrev pub AreStatements : List (List Statement) → Type 0
AreStatements scripts = IsTrue (list_all (list_all is_statement) scripts)

-- a whole history of the sessions whose scripts are the sources' texts, over the pages of the file, which passes its tests and
-- has no clustered table, and an empty log, in the turns of the schedule and then of each session, rising, to its end, each check
-- within its bound
pub record IsRunOf (lefts : List (Option (List ℕ))) (file log : Option (List ℕ)) (run : Setting) (entries : List Entry) : Type 0 where
  pub turns : List (ℕ × ℕ)
  pub counts : List ℕ
  pub begins : run ≡ setting_of run.image run.scripts
  pub texts : AreTexts lefts turns run.scripts
  pub passes : IsRunImage run.image
  pub pages : IfSome file (AreAllPages run.image)
  pub empty : IfSome log IsEmptyLog
  pub rest : length counts ≡ length run.scripts
  pub left : TurnsLeft
  pub after : TurnsLeft
  pub taken : RunWithin run left [] (turns_of turns ++ rest_from 1 counts) after entries
  pub whole : IsWhole run entries

-- the pages at the end of a history
abbrev pub last_of : Setting → List Entry → Image
last_of run entries = final_image run.opened (items_of entries) run.image

-- the pages that no item changes are as the run found them
abbrev pub StayUnchanged : Setting → List Entry → Type 0
StayUnchanged run entries = (p : ℕ) → p < length run.image → is_changed (items_of entries) p ≡ false → page run.image p ≡ page (last_of run entries) p

-- each session's items are those of its script's statements in order, each once, and each answered at its record as a one-thread
-- database answers there
abbrev pub AreAllAnswered : Setting → List Record → Type 0
AreAllAnswered run log = (s : ℕ) → IsSession run s → AreAnswered run s 1 (script_of run.scripts s) (told_to run s log) (placed_of s log)

-- a run is closed, with its replies: its history is one legal history; its items are added to the log, then the pages that an item
-- changes are written, and then the text of the replies; all, or up to where a device failed
pub record Closes (run : Setting) (entries : List Entry) (file file_now log log_now out out_now : Option (List ℕ)) (s : Status) : Type 0 where
  pub replies : List (List Reply)
  pub count : length replies ≡ length run.scripts
  pub legal : IsLegalRun run entries (replies_to replies)
  pub answered : AreAllAnswered run (items_of entries)
  pub stay : StayUnchanged run entries
  pub writes : Writes (log_bytes (items_of entries)) (is_changed (items_of entries)) (last_of run entries) (text_of replies) (ended_as run.scripts replies)
      file file_now log log_now out out_now s

-- a run ends: it doesn't begin, or want of memory ends it before its close, and then nothing is written; or its
-- sources are read to their ends, and it is closed
pub data Ends (lefts lefts_now : List (Option (List ℕ))) (file file_now log log_now out out_now : Option (List ℕ)) (s : Status) : Type 0 where
  Stops : StopsStart lefts file log s → file_now ≡ file → log_now ≡ log → out_now ≡ out → Ends lefts lefts_now file file_now log log_now out out_now s
  Runs : (run : Setting) (entries : List Entry) → IsRunOf lefts file log run entries → All IsAtEnd lefts_now
      → Closes run entries file file_now log log_now out out_now s → Ends lefts lefts_now file file_now log log_now out out_now s
