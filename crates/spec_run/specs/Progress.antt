-- Where a session stands after the items of a run, and which items may come next (this project's own).
use Rattle.std.specs.Prelude.{◌≡◌, ℕ, ◌+◌, ◌-◌, ◌==◌, Bool, false, if◌then◌else◌, List, [], ◌∷◌, length, slice_get, Option, Some, None, ◌⊎◌}
use Rattle.spec_log.specs.declared.limits.TheConstants.{SHORT}
use Rattle.spec_log.specs.declared.item.Record.{Record}
use Rattle.spec_script.specs.declared.limits.TheConstants.{NO_MEMORY}
use Rattle.spec_log.specs.declared.item.Record.TheVariants.{Start, Snap, CheckEnd}
use Rattle.spec_log.specs.Log.{rest_of}
use Rattle.spec_script.specs.declared.reply.Reply.TheVariants.{Done, Refused}
use Rattle.spec_script.specs.declared.statement.Statement.{Statement}
use Rattle.spec_plan.specs.Refusals.{out_of_memory}
use Rattle.spec_run.specs.Begun.{Setting, Telling, Answers, begun}
use Rattle.spec_run.specs.Sessions.{session_of, open_after}

-- what a session was told, the newest first; the items that its statement still owes, and what it is told after
-- them; the item that may stand for the next where memory runs out; its open transaction, 0 for none
pub record Progress : Type 0 where
  pub told : List Telling
  pub due : List Record
  pub telling : Telling
  pub want : Option Record
  pub tran : ℕ

abbrev pub at_first : Progress
at_first = record { told = []; due = []; telling = Answers Done; want = None; tran = 0 }

-- the script of a session, counted from 1
abbrev pub script_of : List (List Statement) → ℕ → List Statement
script_of [] s = []
script_of (script ∷ scripts) s = if s == 1 then script else script_of scripts (s - 1)

-- the session with its next statement begun
abbrev pub with_statement : Setting → List Record → ℕ → Progress → Option Statement → Progress
with_statement run log s p None = p
with_statement run log s p (Some statement) =
    let next = begun run log s (length p.told + 1) p.tran statement in
    record { told = p.told; due = next.items; telling = next.telling; want = next.want; tran = p.tran }

-- what the session works at: the statement that is under way, or else its next one
abbrev pub at_work : Setting → List Record → ℕ → Progress → List Record → Progress
at_work run log s p [] = with_statement run log s p (slice_get (script_of run.scripts s) (length p.told))
at_work run log s p (x ∷ due) = p

-- the item ends its statement for want of memory
abbrev pub is_short : Record → Bool
is_short (Start session index tran number changes size takes) = number == NO_MEMORY
is_short (CheckEnd session index outcome) = outcome == SHORT
is_short other = false

-- behind a Snap, the check may end for want of memory
abbrev pub want_after : Record → Option Record
want_after (Snap session index) = Some (CheckEnd session index 3)
want_after other = None

-- one item more: the statement ends with the last item that it owes
abbrev pub moved_to : Progress → Record → List Record → Progress
moved_to w x [] = record { told = w.telling ∷ w.told; due = []; telling = w.telling; want = None; tran = open_after w.tran x }
moved_to w x (y ∷ due) = record { told = w.told; due = y ∷ due; telling = w.telling; want = want_after x; tran = open_after w.tran x }

-- or with an item that stands for want of memory
abbrev pub cut_short : Progress → Record → Progress
cut_short w x = record { told = Answers (Refused out_of_memory) ∷ w.told; due = []; telling = w.telling; want = None; tran = open_after w.tran x }

abbrev pub moved : Progress → Record → Progress
moved w x = if is_short x then cut_short w x else moved_to w x (rest_of w.due)

-- where the session stands: its own items move it on, each from the log before it
abbrev pub progress_of : Setting → ℕ → List Record → Progress
progress_of run s [] = at_first
progress_of run s (x ∷ older) =
    let p = progress_of run s older in
    if session_of older x == s then moved (at_work run older s p p.due) x else p

-- what the session works at in its next turn
abbrev pub work_of : Setting → ℕ → List Record → Progress
work_of run s log = at_work run log s (progress_of run s log) (progress_of run s log).due

abbrev pub first_of : List Record → Option Record
first_of [] = None
first_of (x ∷ xs) = Some x

-- the session's next item, none where its script is done
abbrev pub next_of : Setting → ℕ → List Record → Option Record
next_of run s log = first_of (work_of run s log).due

-- the item may come next: the one that is due, or the one for want of memory
abbrev pub MayCome : Progress → Record → Type 0
MayCome w x = (first_of w.due ≡ Some x) ⊎ (w.want ≡ Some x)
