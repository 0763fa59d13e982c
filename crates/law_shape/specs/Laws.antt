-- The items of a legal history are its statements.
use Rattle.std.specs.Prelude.{◌≡◌, ℕ, List, [], length}
use Rattle.spec_log.specs.declared.item.Record.{Record}
use Rattle.spec_script.specs.declared.reply.Reply.{Reply}
use Rattle.spec_script.specs.declared.statement.Statement.{Statement}
use Rattle.spec_run.specs.Entries.{Entry, items_of, AreMarked}
use Rattle.spec_run.specs.Sessions.{Placed, placed_of, open_of, log_before, HasLegalItems, HasWholeItems}
use Rattle.spec_run.specs.Begun.{Setting, Telling, Tells}
use Rattle.spec_run.specs.Answers.{Allows}
use Rattle.spec_run.specs.Progress.{script_of}
use Rattle.spec_run.specs.Turns.{IsSession, IsLegal, AreTold, told_to, IsLegalRun, IsWhole, Run}
use Rattle.law_run.specs.Laws.{IsStart}
use Rattle.law_shape.specs.Answered.{IsAnswered, AreAnswered, IsServed}

-- in a legal history each session is served: its items are its script's statements in order, each once, each answered at
-- its record
abbrev pub LegalIsServed : Type 0
LegalIsServed = (run : Setting) (log : List Record) → IsStart run → IsLegal run log → (s : ℕ) → IsSession run s → IsServed run log s

-- where each session is done, its items are all statements of its script
abbrev pub WholeIsServed : Type 0
WholeIsServed = (run : Setting) (entries : List Entry) → IsStart run → IsLegal run (items_of entries) → IsWhole run entries → (s : ℕ) → IsSession run s →
    AreAnswered run s 1 (script_of run.scripts s) (told_to run s (items_of entries)) (placed_of s (items_of entries))
    × (length (told_to run s (items_of entries)) ≡ length (script_of run.scripts s))

-- so they are its statements by their shapes alone
abbrev pub LegalHasItems : Type 0
LegalHasItems = (run : Setting) (entries : List Entry) → IsStart run → IsLegal run (items_of entries) → AreMarked entries →
    HasLegalItems run.geometry run.opened run.image (length run.scripts) entries

abbrev pub WholeHasItems : Type 0
WholeHasItems = (run : Setting) (entries : List Entry) → IsStart run → IsLegal run (items_of entries) → IsWhole run entries →
    HasWholeItems run.opened (λ s. length (script_of run.scripts s)) (length run.scripts) entries

-- each reply that goes with what was told of an answered statement is allowed at its record, where no page failed
abbrev pub RepliesAreAllowed : Type 0
RepliesAreAllowed =
    (run : Setting) (s i : ℕ) (st : Statement) (placed : List Placed) (told : Telling) (reply : Reply) → IsAnswered run s i st placed told → Tells run.geometry told reply →
    Allows run (log_before placed) (open_of s (log_before placed)) st [] reply

-- turns put a mark only where a check is under way, and once
abbrev pub TurnsMark : Type 0
TurnsMark = (run : Setting) (turns : List ℕ) (old new : List Entry) → IsStart run → IsLegal run (items_of new) → AreMarked old → Run run old turns new → AreMarked new

-- what turns make of a history whose marks are right, with the replies that it tells, is a legal run
abbrev pub TurnsAreLegal : Type 0
TurnsAreLegal = (run : Setting) (turns : List ℕ) (old new : List Entry) (replies : ℕ → List Reply) → IsStart run → IsLegal run (items_of new) → AreMarked old → Run run old turns new →
    ((s : ℕ) → IsSession run s → AreTold run.geometry (told_to run s (items_of new)) (replies s)) → IsLegalRun run new replies
