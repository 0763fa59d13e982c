-- What holds of every legal history.
use Rattle.std.specs.Prelude.{◌≡◌, ℕ, ◌+◌, ◌<◌, ◌≤◌, true, List, [], ◌++◌, length, IfSome}
use Rattle.spec_file.specs.Places.{HasShape}
use Rattle.spec_log.specs.declared.item.Record.{Record}
use Rattle.spec_log.specs.Items.{has_form}
use Rattle.spec_log.specs.Log.{is_unfinished, left_of}
use Rattle.spec_log.specs.Cells.{HasWholePages}
use Rattle.spec_log.specs.Rules.{HaveForm, KeepsRules}
use Rattle.spec_log.specs.Sound.{IsSound}
use Rattle.spec_log.specs.declared.limits.TheConstants.{MOST_CHANGES}
use Rattle.spec_script.specs.declared.statement.Statement.{Statement}
use Rattle.spec_script.specs.Lines.{is_statement}
use Rattle.spec_run.specs.OfBytes.{AllPutBytes, HasPagesOfBytes, AreProper}
use Rattle.spec_run.specs.Sessions.{session_of}
use Rattle.spec_run.specs.Begun.{Setting, Begun, begun}
use Rattle.spec_run.specs.Progress.{progress_of, work_of, MayCome}
use Rattle.spec_run.specs.Turns.{IsLegal}

-- what a run may begin with: a log in its form that keeps the rules and puts bytes; a file of whole pages of bytes and
-- whole extents; and statements that a script can have
pub record IsStart (run : Setting) : Type 0 where
  pub forms : HaveForm run.opened
  pub rules : KeepsRules run.geometry (length run.image) run.opened
  pub whole : HasWholePages run.image
  pub shape : HasShape run.geometry (length run.image)
  pub pages : HasPagesOfBytes run.image
  pub items : AllPutBytes run.opened
  pub proper : AreProper run

-- a legal history is sound: it keeps the rules of a log, its Changes find what their transactions see, and what is
-- rolled back doesn't commit
abbrev pub LegalIsSound : Type 0
LegalIsSound = (run : Setting) (log : List Record) → IsStart run → IsLegal run log → IsSound run.geometry (length run.image) run.opened run.image log

-- an item that may come next in a session belongs to that session
abbrev pub NextBelongs : Type 0
NextBelongs = (run : Setting) (log : List Record) (s : ℕ) (x : Record) → IsStart run → IsLegal run log → 0 < s → MayCome (work_of run s log) x → session_of log x ≡ s

-- a legal history puts bytes
abbrev pub LegalPutsBytes : Type 0
LegalPutsBytes = (run : Setting) (log : List Record) → IsStart run → IsLegal run log → AllPutBytes (log ++ run.opened)

-- what a statement owes has the form of the log's items, and so has what it owes for want of memory; it owes no more
-- items than a record, an end, and the most changes of a transaction or one for each change that is left to undo
pub record IsBounded (b : Begun) (left : ℕ) : Type 0 where
  pub forms : HaveForm b.items
  pub want : IfSome b.want (λ x. has_form x ≡ true)
  pub few : length b.items ≤ 2 + MOST_CHANGES + left

abbrev pub BegunIsBounded : Type 0
BegunIsBounded = (run : Setting) (log : List Record) (s i t : ℕ) (st : Statement) → IsStart run →
    IsLegal run log → 0 < s → 0 < i → is_statement st ≡ true →
    IsBounded (begun run log s i t st) (length (left_of t (log ++ run.opened)))

-- every unfinished transaction of a run over an empty log is the open one of a session
abbrev pub UnfinishedIsOpen : Type 0
UnfinishedIsOpen = (run : Setting) (log : List Record) → IsStart run → IsLegal run log → run.opened ≡ [] → (u : ℕ) → is_unfinished (log ++ run.opened) u ≡ true →
    (s : ℕ) × (0 < s) × (s ≤ length run.scripts) × ((progress_of run s log).tran ≡ u)
