-- The core's state as a whole, and what a turn makes of it.
use Rattle.std.specs.Prelude.{◌≡◌, ◌/◌, ℕ, ◌+◌, ◌-◌, ◌<◌, ◌≤◌, max, Bool, true, false, List, [], ◌∷◌, ◌++◌, length, map, reverse, sum_by, slice_get, vec_len, vec_capacity, Some, None, ◌⊎◌}
use Rattle.spec_log.specs.declared.limits.TheConstants.{MOST_ITEMS, MOST_BYTES}
use Rattle.spec_log.specs.declared.item.Record.{Record}
use Rattle.spec_log.specs.declared.item.Record.TheVariants.{Snap}
use Rattle.spec_log.specs.Items.{tran_of}
use Rattle.spec_run.specs.Begun.{Setting}
use Rattle.spec_run.specs.Progress.{progress_of, next_of, script_of}
use Rattle.spec_script.specs.declared.statement.Statement.{Statement}
use Rattle.spec_run.specs.Turns.{Turn}
use Rattle.db_core.specs.declared.session.Doing.TheVariants.{Idle}
use Rattle.db_core.specs.declared.session.Session.{Session}
use Rattle.db_core.specs.declared.state.State.{State}
use Rattle.db_core.specs.declared.out.TurnOut.{TurnOut}
use Rattle.db_core.specs.declared.out.TurnOut.TheVariants as out
use Rattle.spec_run.specs.Bounds.{most_turns}
use Rattle.db_core.specs.Rooms.{owed_by, HasOwnRoom, turns_left, left_of_statement}
use Rattle.db_core.specs.States.{Db, IsState, run_of, entries_of}

-- what the run began with, and what it has appended, the newest first
abbrev pub run_is : State → Setting
run_is st = run_of st.base.value st.first.value.items

abbrev pub log_of : State → List Record
log_of st = reverse st.items.items

-- how many turns the statement of session `at`, counted from 0, still takes at most
abbrev pub left_at : State → ℕ → ℕ
left_at st at = left_of_statement st.items.items (slice_get st.sessions.items at)

-- what contracts see of the state
abbrev pub db_of : State → Db
db_of st = record { run = run_is st; entries = entries_of (log_of st); left = map (λ (x : Session). turns_left st.items.items x x.doing) st.sessions.items }

-- the state is that of the history, there is room for what is begun, and no sum passes a limit
pub record IsGood (st : State) : Type 0 where
  pub state : IsState (run_is st) (log_of st) st.frames st.sessions.items st.last st.all st.size
  pub room : vec_len st.items + st.owed ≤ vec_capacity st.items
  pub owed_is : sum_by owed_by st.sessions.items ≡ st.owed
  pub each_room : (k : ℕ) (x : Session) → slice_get st.sessions.items k ≡ Some x → HasOwnRoom x
  pub few : length st.sessions.items ≤ 16
  pub low : st.last ≤ length st.items.items
  pub all_low : st.all ≤ MOST_ITEMS / 2
  pub size_low : st.size ≤ MOST_BYTES

-- a turn of a session, from one state to the next
abbrev pub IsTurn : ℕ → State → State → Type 0
IsTurn s old new = (run_is new ≡ run_is old) × Turn (run_is old) s (entries_of (log_of old)) (entries_of (log_of new))

-- the item is the Snap of a check
abbrev pub is_snap : Record → Bool
is_snap (Snap session index) = true
is_snap other = false

-- how many statements of a session are finished
abbrev pub told_count : Setting → ℕ → List Record → ℕ
told_count run s log = length (progress_of run s log).told

-- what a turn answers of the history before and after it
abbrev pub SaysOut : Setting → ℕ → List Record → List Record → TurnOut → Type 0
SaysOut run s old new out.Finished = (next_of run s old ≡ None) × (new ≡ old)
SaysOut run s old new (out.Answered index) = (told_count run s new ≡ index) × (told_count run s old + 1 ≡ index)
SaysOut run s old new out.Checking = (told_count run s new ≡ told_count run s old) × ((index : ℕ) × (new ≡ Snap s index ∷ old))
SaysOut run s old new out.Moved =
    (told_count run s old < length (script_of run.scripts s)) × (told_count run s new ≡ told_count run s old)
    × ((index : ℕ) → new ≡ Snap s index ∷ old → ⊥)

-- an item was put behind the others, and the room that session `at` owes is counted again
pub record IsSettled (at before : ℕ) (item : Record) (x : Session) (old new : State) : Type 0 where
  pub base : new.base ≡ old.base
  pub first : new.first ≡ old.first
  pub items : new.items.items ≡ old.items.items ++ item ∷ []
  pub len : vec_len new.items ≡ vec_len old.items + 1
  pub capacity : vec_capacity old.items ≤ vec_capacity new.items
  pub frames : new.frames ≡ old.frames
  pub sessions : new.sessions.items ≡ old.sessions.items
  pub last : new.last ≡ max (tran_of item) old.last
  pub all_is : new.all ≡ old.all
  pub size_is : new.size ≡ old.size
  pub owed : new.owed ≡ old.owed - before + owed_by x

-- each other session has as many turns left as before
abbrev pub LeavesOthers : ℕ → State → State → Type 0
LeavesOthers at old new = (j : ℕ) → (j ≡ at → ⊥) → left_at new j ≡ left_at old j

-- a check that begins has no more turns than its bound
abbrev pub BeginsFew : ℕ → State → State → Type 0
BeginsFew at old new = (index : ℕ) → log_of new ≡ Snap (at + 1) index ∷ log_of old → left_at new at ≤ most_turns (run_is old) (log_of old)

-- a turn that appended one item, not the Snap of a check
pub record Went (at : ℕ) (old new : State) : Type 0 where
  pub good : IsGood new
  pub turn : IsTurn (at + 1) old new
  pub item : Record
  pub appended : log_of new ≡ item ∷ log_of old
  pub silent : is_snap item ≡ false
  pub others : LeavesOthers at old new

-- what session `at` has still to do became less
abbrev pub IsNearer : ℕ → State → State → Type 0
IsNearer at old new = (x y : Session) → slice_get old.sessions.items at ≡ Some x → slice_get new.sessions.items at ≡ Some y →
    turns_left new.items.items y y.doing < turns_left old.items.items x x.doing

-- a turn of session `at`: the state stays good, and what it answers is so
pub record Advanced (at : ℕ) (old new : State) (answer : TurnOut) : Type 0 where
  pub good : IsGood new
  pub turn : IsTurn (at + 1) old new
  pub says : SaysOut (run_is old) (at + 1) (log_of old) (log_of new) answer
  pub told : told_count (run_is old) (at + 1) (log_of old) ≤ told_count (run_is old) (at + 1) (log_of new)
  pub rests : (x : Session) → slice_get old.sessions.items at ≡ Some x → answer ≡ out.Finished → (x.doing ≡ Idle) × (slice_get x.script.items (length x.replies.items) ≡ None)
  pub idle : (y : Session) → slice_get new.sessions.items at ≡ Some y → y.doing ≡ Idle →
      (answer ≡ out.Finished) ⊎ (told_count (run_is old) (at + 1) (log_of new) ≡ told_count (run_is old) (at + 1) (log_of old) + 1)
  pub begins : BeginsFew at old new
  pub others : LeavesOthers at old new

-- a session that is in the middle of a statement comes nearer to its end
abbrev pub GoesNearer : ℕ → State → State → Type 0
GoesNearer at old new = (x y : Session) → slice_get old.sessions.items at ≡ Some x → slice_get new.sessions.items at ≡ Some y →
    (x.doing ≡ Idle → ⊥) → turns_left new.items.items y y.doing < turns_left old.items.items x x.doing

-- a session with these many replies before the turn answers so behind it
abbrev pub Answers : ℕ → Session → TurnOut → Type 0
Answers before y out.Finished = ⊥
Answers before y (out.Answered index) = (index ≡ length y.replies.items) × (before < index)
Answers before y out.Checking = ⊥
Answers before y out.Moved = length y.replies.items ≤ before
