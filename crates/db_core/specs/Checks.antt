-- The turns of a check.
use Rattle.spec_run.specs.Openings.{geometry_said}
use Rattle.std.specs.Prelude.{◌≡◌, ℕ, ◌+◌, ◌-◌, ◌≤◌, true, List, [], ◌∷◌, ◌++◌, slice_get, Option, Some, None, Result, Ok, Err, ◌⊎◌}
use Rattle.spec_file.specs.Image.{Image}
use Rattle.spec_file.specs.declared.data.NoMemory.{NoMemory}
use Rattle.spec_log.specs.declared.item.Record.{Record}
use Rattle.spec_log.specs.declared.item.Record.TheVariants.{Snap, CheckEnd}
use Rattle.spec_check.specs.declared.report.CheckReport.{CheckReport}
use Rattle.spec_tables.specs.Written.{IsCheckOf}
use Rattle.spec_script.specs.declared.reply.Reply.TheVariants.{Report, Refused}
use Rattle.spec_plan.specs.Refusals.{out_of_memory}
use Rattle.db_core.specs.declared.session.Check.{Check}
use Rattle.db_core.specs.declared.session.Phase.TheVariants.{Back}
use Rattle.db_core.specs.declared.session.Doing.{Doing}
use Rattle.db_core.specs.declared.session.Doing.TheVariants.{Idle, Checking}
use Rattle.db_core.specs.declared.session.Session.{Session}
use Rattle.db_core.specs.declared.starts.StatementNo.{StatementNo}
use Rattle.db_core.specs.declared.state.State.{State}
use Rattle.db_core.specs.Back.{GoesBack}
use Rattle.db_core.specs.Reading.{is_read, MayRead, ReadsOn}
use Rattle.db_core.specs.States.{Keeps, KeepsRoom}
use Rattle.spec_run.specs.Bounds.{most_turns}
use Rattle.db_core.specs.Store.{run_is, log_of, left_at, told_count, IsGood, IsTurn, LeavesOthers}
use Rattle.db_core.specs.Views.{open_trans}

-- a check is under way
abbrev pub IsChecking : Doing → Type 0
IsChecking doing = (check : Check) × (doing ≡ Checking check)

-- the sessions differ in what they are in the middle of, and in their room
pub record StaysAs (old new : Session) : Type 0 where
  pub kept : Keeps old new
  pub left : new.left.items ≡ old.left.items
  pub replies : new.replies.items ≡ old.replies.items
  pub room : KeepsRoom old new

-- a session that goes on in its check by such a step
pub record GoesOnBy (Step : Check → Check → Type 0) (old new : Session) : Type 0 where
  pub before : Check
  pub after : Check
  pub was : old.doing ≡ Checking before
  pub is : new.doing ≡ Checking after
  pub step : Step before after
  pub stays : StaysAs old new

-- a session that goes back one step in its check
abbrev pub BacksIn : List Record → Session → Session → Type 0
BacksIn items old new = GoesOnBy (GoesBack items) old new

-- a check that reads on in its pages
pub record ReadsPages (old new : Check) : Type 0 where
  pub point : new.point ≡ old.point
  pub pages : new.pages ≡ old.pages
  pub ongoing : new.ongoing.items ≡ old.ongoing.items
  pub place : new.place ≡ old.place
  pub reads : ReadsOn old.pages old.phase new.phase

-- a session that reads on in its check
abbrev pub ReadsIn : Session → Session → Type 0
ReadsIn old new = GoesOnBy ReadsPages old new

-- a session's check has taken everything back
abbrev pub MayReadIn : Session → Type 0
MayReadIn x = (check : Check) → x.doing ≡ Checking check → MayRead check.pages check.phase

-- a check that is taken out of its session
pub record TakesCheck (check : Check) (old new : Session) : Type 0 where
  pub was : old.doing ≡ Checking check
  pub is : new.doing ≡ Idle
  pub stays : StaysAs old new

-- the check ends with the report of its pages, once all is read, or for want of memory
abbrev pub EndsWith : StatementNo → Check → Session → Session → Record → Type 0
EndsWith place check old new x =
    ((report : CheckReport) × (is_read check.phase ≡ true) × IsCheckOf (geometry_said check.pages) check.pages report
    × (new.replies.items ≡ old.replies.items ++ Report (record { 0 = check.point }) report ∷ []) × (x ≡ CheckEnd place.session place.index 0))
    ⊎ ((new.replies.items ≡ old.replies.items ++ Refused out_of_memory ∷ []) × (x ≡ CheckEnd place.session place.index 3))

pub record EndsBy (place : StatementNo) (old new : Session) (x : Record) : Type 0 where
  pub check : Check
  pub was : old.doing ≡ Checking check
  pub ends : EndsWith place check old new x
  pub kept : Keeps old new
  pub left : new.left.items ≡ old.left.items
  pub doing : new.doing ≡ Idle
  pub room : KeepsRoom old new

-- a session that reads on in its check, or ends it by this item
abbrev pub ReadsOr : StatementNo → Session → Session → Option Record → Type 0
ReadsOr place old new None = ReadsIn old new
ReadsOr place old new (Some item) = EndsBy place old new item

-- a check right behind its Snap, whose number is `point`
pub record IsFresh (point : ℕ) (pages : Image) (sessions : List Session) (check : Check) : Type 0 where
  pub point_is : check.point ≡ point
  pub pages_are : check.pages ≡ pages
  pub ongoing : check.ongoing.items ≡ open_trans sessions
  pub place : check.place ≡ point - 1
  pub phase : check.phase ≡ Back

-- a session that begins this check
pub record Begins (place : StatementNo) (check : Check) (old new : Session) (x : Record) : Type 0 where
  pub item : x ≡ Snap place.session place.index
  pub kept : Keeps old new
  pub left : new.left.items ≡ old.left.items
  pub replies : new.replies.items ≡ old.replies.items
  pub doing : new.doing ≡ Checking check
  pub room : KeepsRoom old new

-- a session whose check ends where it begins
pub record EndsAtOnce (place : StatementNo) (old new : Session) (x : Record) : Type 0 where
  pub item : x ≡ CheckEnd place.session place.index 3
  pub kept : Keeps old new
  pub left : new.left.items ≡ old.left.items
  pub replies : new.replies.items ≡ old.replies.items ++ Refused out_of_memory ∷ []
  pub doing : new.doing ≡ Idle
  pub room : KeepsRoom old new

-- a turn of a check that is under way, or that ends where it begins
pub record Checked (at : ℕ) (old new : State) : Type 0 where
  pub good : IsGood new
  pub turn : IsTurn (at + 1) old new
  pub silent : (index : ℕ) → log_of new ≡ Snap (at + 1) index ∷ log_of old → ⊥
  pub told : (told_count (run_is old) (at + 1) (log_of old) ≤ told_count (run_is old) (at + 1) (log_of new))
      × (told_count (run_is old) (at + 1) (log_of new) ≤ told_count (run_is old) (at + 1) (log_of old) + 1)
  pub idle : (y : Session) → slice_get new.sessions.items at ≡ Some y → y.doing ≡ Idle → told_count (run_is old) (at + 1) (log_of new) ≡ told_count (run_is old) (at + 1) (log_of old) + 1
  pub others : LeavesOthers at old new

-- the turn that appends the Snap of a check that goes on
pub record Snapped (at : ℕ) (old new : State) : Type 0 where
  pub good : IsGood new
  pub turn : IsTurn (at + 1) old new
  pub index : ℕ
  pub snap : log_of new ≡ Snap (at + 1) index ∷ log_of old
  pub told : told_count (run_is old) (at + 1) (log_of new) ≡ told_count (run_is old) (at + 1) (log_of old)
  pub busy : (y : Session) → slice_get new.sessions.items at ≡ Some y → y.doing ≡ Idle → ⊥
  pub few : left_at new at ≤ most_turns (run_is old) (log_of old)
  pub others : LeavesOthers at old new

-- the answer is that the check goes on, or that it ended for want of memory
abbrev pub SnapsOr : ℕ → State → State → Result Unit NoMemory → Type 0
SnapsOr at old new (Ok u) = Snapped at old new
SnapsOr at old new (Err e) = Checked at old new
