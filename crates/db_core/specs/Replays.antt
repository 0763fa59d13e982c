-- Runs of turns from one state to another.
use Rattle.std.specs.Prelude.{◌≡◌, ℕ, ◌+◌, ◌-◌, ◌<◌, ◌≤◌, List, [], length, replicate, slice_get, Option, Some, None}
use Rattle.spec_log.specs.declared.item.Record.{Record}
use Rattle.spec_run.specs.Begun.{Setting}
use Rattle.spec_run.specs.Progress.{progress_of, script_of, next_of}
use Rattle.db_core.specs.declared.session.Doing.TheVariants.{Idle}
use Rattle.db_core.specs.declared.session.Session.{Session}
use Rattle.spec_run.specs.Bounds.{RunWithin}
use Rattle.db_core.specs.declared.state.State.{State}
use Rattle.spec_run.specs.Schedules.{turns_of, rest_from}
use Rattle.db_core.specs.States.{entries_of, left_in}
use Rattle.db_core.specs.Store.{run_is, log_of, db_of, IsGood, told_count}

-- these turns lead from one good state to another, each within its bound
pub record Follows (turns : List ℕ) (old new : State) : Type 0 where
  pub good : IsGood new
  pub same : run_is new ≡ run_is old
  pub run : RunWithin (run_is old) (left_in (db_of old)) (entries_of (log_of old)) turns (left_in (db_of new)) (entries_of (log_of new))

-- the turns of a schedule
abbrev pub RunsSchedule : List (ℕ × ℕ) → State → State → Type 0
RunsSchedule schedule old new = Follows (turns_of schedule) old new

-- so many turns of session `at`
abbrev pub RunsTurns : ℕ → ℕ → State → State → Type 0
RunsTurns at n old new = Follows (replicate n (at + 1)) old new

-- a session whose script is done
abbrev pub IsDoneSession : Session → Type 0
IsDoneSession x = (x.doing ≡ Idle) × (slice_get x.script.items (length x.replies.items) ≡ None)

-- a session that is in the middle of a statement, or has another one
abbrev pub MayGoOn : Session → Type 0
MayGoOn x = x.doing ≡ Idle → length x.replies.items < length x.script.items

-- nothing is due in a session, and no statement is next
abbrev pub IsDone : Setting → ℕ → List Record → Type 0
IsDone run s log = ((progress_of run s log).due ≡ []) × (slice_get (script_of run.scripts s) (told_count run s log) ≡ None)

-- turns of session `at` to the end of its script
pub record EndsSession (at : ℕ) (old new : State) : Type 0 where
  pub count : ℕ
  pub follows : Follows (replicate count (at + 1)) old new
  pub done : IsDone (run_is old) (at + 1) (log_of new)

-- turns of session `at` to the end of a statement
pub record EndsStatement (at : ℕ) (old new : State) : Type 0 where
  pub count : ℕ
  pub follows : Follows (replicate count (at + 1)) old new
  pub told : told_count (run_is old) (at + 1) (log_of old) < told_count (run_is old) (at + 1) (log_of new)
  pub idle : (y : Session) → slice_get new.sessions.items at ≡ Some y → y.doing ≡ Idle

-- each session's turns, rising, to its end
pub record EndsSessions (old new : State) : Type 0 where
  pub counts : List ℕ
  pub all : length counts ≡ length old.sessions.items
  pub follows : Follows (rest_from 1 counts) old new
  pub done : (s : ℕ) → 0 < s → s ≤ length old.sessions.items → next_of (run_is old) s (log_of new) ≡ None

-- how many of a session's statements aren't answered
abbrev pub unanswered : Option Session → ℕ
unanswered None = 0
unanswered (Some x) = length x.script.items - length x.replies.items

-- turns of session `at` so far, behind its first
pub record GoesOn (at : ℕ) (old new : State) : Type 0 where
  pub count : ℕ
  pub follows : Follows (replicate count (at + 1)) old new
  pub told : told_count (run_is old) (at + 1) (log_of old) ≤ told_count (run_is old) (at + 1) (log_of new)
  pub more : (y : Session) → slice_get new.sessions.items at ≡ Some y → y.doing ≡ Idle →
      told_count (run_is old) (at + 1) (log_of old) < told_count (run_is old) (at + 1) (log_of new)

-- the first sessions are at their ends
pub record EndsFirst (n : ℕ) (old new : State) : Type 0 where
  pub counts : List ℕ
  pub all : length counts ≡ n
  pub follows : Follows (rest_from 1 counts) old new
  pub done : (s : ℕ) → 0 < s → s ≤ n → IsDone (run_is old) s (log_of new)
