-- What the core keeps of each session, tied to the history.
use Rattle.spec_run.specs.Openings.{geometry_said}
use Rattle.std.specs.Prelude.{◌≡◌, ℕ, ◌+◌, ◌-◌, ◌<◌, ◌≤◌, ◌==◌, Bool, true, false, List, [], ◌∷◌, ◌++◌, length, map, reverse, take, slice_get, slice_index, vec_capacity, Some, ◌⊎◌}
use Rattle.std.specs.List.{list_any}
use Rattle.spec_log.specs.declared.limits.TheConstants.{MOST_CHANGES}
use Rattle.spec_file.specs.declared.data.Resource.{Resource}
use Rattle.spec_file.specs.Image.{Image, page}
use Rattle.spec_log.specs.declared.item.Record.{Record}
use Rattle.spec_log.specs.declared.item.Record.TheVariants.{Undo, Commit, Abort, CheckEnd}
use Rattle.spec_log.specs.Items.{is_same}
use Rattle.spec_log.specs.Log.{is_unfinished, holds, greatest_of, left_of}
use Rattle.spec_log.specs.Limits.{changes_of, all_changes, all_bytes}
use Rattle.spec_log.specs.Images.{page_of_cell, put_before, taken_back, final_image}
use Rattle.spec_log.specs.Cells.{put}
use Rattle.spec_run.specs.Shapes.{change_item}
use Rattle.vol_pool.specs.Cells.{FitsCell, MayUndo}
use Rattle.spec_script.specs.declared.reply.Reply.{Reply}
use Rattle.spec_script.specs.declared.reply.Reply.TheVariants.{Done}
use Rattle.spec_plan.specs.declared.plan.Planned.{Planned}
use Rattle.spec_run.specs.Entries.{Entry, Item}
use Rattle.spec_run.specs.Begun.{Setting, Telling, Answers, Reports}
use Rattle.spec_run.specs.Progress.{Progress, progress_of, script_of}
use Rattle.spec_run.specs.Turns.{AreTold, told_to, IsLegal, Turn}
use Rattle.law_run.specs.Laws.{IsStart}
use Rattle.law_run.specs.Doing.{change_items, abort_items}
use Rattle.db_core.specs.declared.session.Doing.{Doing}
use Rattle.db_core.specs.declared.session.Doing.TheVariants.{Idle, Changing, Ending, Undoing, Checking}
use Rattle.db_core.specs.declared.session.Check.{Check}
use Rattle.db_core.specs.declared.session.Session.{Session}
use Rattle.db_core.specs.Reading.{is_back, IsPhaseOf}

-- what contracts see of the core: what the run began with, its history, the newest entry first, and for each session
-- how many turns its statement that is under way still takes at most
pub record Db : Type 0 where
  pub run : Setting
  pub entries : List Entry
  pub left : List ℕ

-- how many these are for a session, counted from 1
abbrev pub left_in : Db → ℕ → ℕ
left_in db s = slice_index db.left (s - 1)

-- the history as its entries
abbrev pub entries_of : List Record → List Entry
entries_of log = map Item log

-- a turn of a session, from one history to the next
abbrev pub TurnIn : ℕ → Db → Db → Type 0
TurnIn s old new = (new.run ≡ old.run) × Turn old.run s old.entries new.entries

-- the whole log of a history
abbrev pub whole_log : Setting → List Record → List Record
whole_log run log = log ++ run.opened

-- the items before the one with this number, the newest first
abbrev pub items_before : Setting → List Record → ℕ → List Record
items_before run log number = reverse (take (number - 1) (reverse (whole_log run log)))

-- one of these transactions
abbrev pub is_among : List ℕ → ℕ → Bool
is_among trans t = list_any (λ u. u == t) trans

-- taking back what is left of the items before the check's Snap gives the image that it reports; behind that nothing is
-- left, and a scan is one of these pages
pub record IsSnapshot (run : Setting) (log : List Record) (check : Check) (telling : Telling) : Type 0 where
  pub above : 0 < check.point
  pub inside : check.point ≤ length (whole_log run log)
  pub placed : check.place < check.point
  pub long : length check.pages ≡ length run.image
  pub first : page check.pages 0 ≡ page run.image 0
  pub open_is : (t : ℕ) → is_unfinished (items_before run log check.point) t ≡ is_among check.ongoing.items t
  pub reports : telling ≡ Reports check.point (taken_back (is_unfinished (items_before run log check.point))
      (reverse (take check.place (reverse (whole_log run log)))) check.pages)
  pub undone : is_back check.phase ≡ false → check.place ≡ 0
  pub phase_is : IsPhaseOf check.pages check.phase

-- what the session is doing: the items that it owes, and what it is told after them
abbrev pub IsAt : Setting → List Record → ℕ → ℕ → ℕ → Progress → Doing → Type 0
IsAt run log s index t p Idle = p.due ≡ []
IsAt run log s index t p (Changing next later own reply) = (p.due ≡ change_items t (next ∷ reverse later.items) own) × (p.telling ≡ Answers reply)
IsAt run log s index t p (Ending reply) = (p.due ≡ change_items t [] true) × (p.telling ≡ Answers reply)
IsAt run log s index t p Undoing = (p.due ≡ abort_items t (left_of t (whole_log run log))) × (p.telling ≡ Answers Done) × (0 < t)
IsAt run log s index t p (Checking check) = (p.due ≡ CheckEnd s index 0 ∷ []) × IsSnapshot run log check p.telling × (p.want ≡ Some (CheckEnd s index 3))

-- the open transaction: its changes that are left, what it holds, and how many changes it announced
pub record IsOpen (log : List Record) (t : ℕ) (left : List ℕ) (held : List Resource) (used : ℕ) : Type 0 where
  pub left_is : map (λ (p : ℕ × Record). p.0) (left_of t log) ≡ reverse left
  pub held_is : (r : Resource) → holds log t r ≡ list_any (is_same r) held
  pub used_is : changes_of t log ≡ used

pub record IsSession (run : Setting) (log : List Record) (s : ℕ) (x : Session) : Type 0 where
  pub script_is : script_of run.scripts s ≡ x.script.items
  pub told : AreTold run.geometry (told_to run s log) x.replies.items
  pub tran_is : (progress_of run s log).tran ≡ x.tran
  pub doing_is : IsAt run log s (length x.replies.items + 1) x.tran (progress_of run s log) x.doing
  pub opens : (x.tran ≡ 0) ⊎ IsOpen (whole_log run log) x.tran x.left.items x.held.items x.used

-- the core's state is that of the history
pub record IsState (run : Setting) (log : List Record) (pages : Image) (sessions : List Session) (last all size : ℕ) : Type 0 where
  pub start : IsStart run
  pub legal : IsLegal run log
  pub pages_are : pages ≡ final_image run.opened log run.image
  pub few : length sessions ≡ length run.scripts
  pub each : (k : ℕ) (x : Session) → slice_get sessions k ≡ Some x → IsSession run log (k + 1) x
  pub last_is : last ≡ greatest_of (whole_log run log)
  pub all_is : all ≡ all_changes (whole_log run log)
  pub size_is : size ≡ all_bytes (whole_log run log)

-- the changes that a session makes next, and what it does behind them
abbrev pub IsChanging : List Planned → Bool → Reply → Doing → Type 0
IsChanging changes own reply Idle = ⊥
IsChanging changes own reply (Changing next later o r) = (changes ≡ next ∷ reverse later.items) × (o ≡ own) × (r ≡ reply)
IsChanging changes own reply (Ending r) = ⊥
IsChanging changes own reply Undoing = ⊥
IsChanging changes own reply (Checking check) = ⊥

-- what a session does with these changes left: them, or the Commit of a transaction of its own, or nothing more
abbrev pub GoesOnWith : List Planned → Bool → Reply → Session → Session → Type 0
GoesOnWith [] true reply old new = (new.doing ≡ Ending reply) × (new.replies.items ≡ old.replies.items)
GoesOnWith [] false reply old new = (new.doing ≡ Idle) × (new.replies.items ≡ old.replies.items ++ reply ∷ [])
GoesOnWith (c ∷ cs) own reply old new = IsChanging (c ∷ cs) own reply new.doing × (new.replies.items ≡ old.replies.items)

-- what stays of a session
pub record Keeps (old new : Session) : Type 0 where
  pub script : new.script.items ≡ old.script.items
  pub tran : new.tran ≡ old.tran
  pub held : new.held.items ≡ old.held.items
  pub used : new.used ≡ old.used

-- no room for replies or numbers is given up
pub record KeepsRoom (old new : Session) : Type 0 where
  pub replies : vec_capacity old.replies ≤ vec_capacity new.replies
  pub left : vec_capacity old.left ≤ vec_capacity new.left

-- a step of undoing, with the numbers that are left, the last first: the next change is undone, or the transaction ends
abbrev pub StepsBack : List ℕ → List Record → Session → Session → Image → Image → Record → Type 0
StepsBack [] items old new pages after x =
    (x ≡ Abort (record { 0 = old.tran })) × (new.script.items ≡ old.script.items) × (new.tran ≡ 0) × (new.doing ≡ Idle)
    × (new.replies.items ≡ old.replies.items ++ Done ∷ []) × (after ≡ pages) × (new.left.items ≡ []) × (new.used ≤ MOST_CHANGES)
StepsBack (n ∷ rest) items old new pages after x =
    (x ≡ Undo (record { 0 = old.tran }) (record { 0 = n })) × Keeps old new × (reverse new.left.items ≡ rest) × (new.doing ≡ Undoing)
    × (new.replies.items ≡ old.replies.items) × (after ≡ put_before (slice_get items (n - 1)) pages)

-- the session is in the middle of a statement that isn't a check
abbrev pub IsUnderWay : Doing → Type 0
IsUnderWay Idle = ⊥
IsUnderWay (Changing next later own reply) = Unit {0}
IsUnderWay (Ending reply) = Unit {0}
IsUnderWay Undoing = Unit {0}
IsUnderWay (Checking check) = ⊥

-- what the session puts next fits into the pages
abbrev pub MayStep : Image → List Record → Session → Doing → Type 0
MayStep pages items old Idle = Unit {0}
MayStep pages items old (Changing next later own reply) = (page_of_cell next.cell < length pages) × FitsCell next.cell next.after
MayStep pages items old (Ending reply) = Unit {0}
MayStep pages items old Undoing = MayUndo pages items (reverse old.left.items)
MayStep pages items old (Checking check) = Unit {0}

-- the step of a session that was doing this, with item x of this number
abbrev pub StepsBy : ℕ → List Record → Session → Session → Image → Image → Record → Doing → Type 0
StepsBy number items old new pages after x Idle = ⊥
StepsBy number items old new pages after x (Changing next later own reply) =
    (x ≡ change_item old.tran next) × (after ≡ put pages next.cell next.after) × Keeps old new × (new.left.items ≡ old.left.items ++ number ∷ [])
    × GoesOnWith (reverse later.items) own reply old new
StepsBy number items old new pages after x (Ending reply) =
    (x ≡ Commit (record { 0 = old.tran })) × (after ≡ pages) × (new.script.items ≡ old.script.items) × (new.tran ≡ 0) × (new.doing ≡ Idle)
    × (new.replies.items ≡ old.replies.items ++ reply ∷ []) × (new.left.items ≡ []) × (new.used ≤ MOST_CHANGES)
StepsBy number items old new pages after x Undoing = StepsBack (reverse old.left.items) items old new pages after x
StepsBy number items old new pages after x (Checking check) = ⊥

-- the sessions differ in their room alone
pub record IsSame (old new : Session) : Type 0 where
  pub kept : Keeps old new
  pub left : new.left.items ≡ old.left.items
  pub replies : new.replies.items ≡ old.replies.items
  pub doing : new.doing ≡ old.doing

-- what a run over these pages begins with, with sessions that have these scripts
abbrev pub run_of : Image → List Session → Setting
run_of image sessions = record { geometry = geometry_said image; opened = []; image = image; scripts = map (λ (x : Session). x.script.items) sessions }
