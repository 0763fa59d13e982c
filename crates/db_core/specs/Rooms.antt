-- Room that the core keeps, so that what it has begun never wants memory.
use Rattle.std.specs.Prelude.{ℕ, ◌+◌, ◌-◌, ◌*◌, ◌≤◌, Bool, true, false, List, length, vec_capacity, Option, Some, None}
use Rattle.spec_log.specs.declared.limits.TheConstants.{MOST_CHANGES}
use Rattle.spec_script.specs.declared.limits.TheConstants.{MOST_LINES}
use Rattle.spec_log.specs.declared.item.Record.{Record}
use Rattle.db_core.specs.declared.session.Doing.{Doing}
use Rattle.db_core.specs.declared.session.Doing.TheVariants.{Idle, Changing, Ending, Undoing, Checking}
use Rattle.db_core.specs.declared.session.Session.{Session}
use Rattle.db_core.specs.Back.{steps_left}

-- the changes that are still to be made
abbrev pub pending_of : Doing → ℕ
pending_of Idle = 0
pending_of (Changing next later own reply) = length later.items + 1
pending_of (Ending reply) = 0
pending_of Undoing = 0
pending_of (Checking check) = 0

-- one statement is under way, or none
abbrev pub started_of : Doing → ℕ
started_of Idle = 0
started_of (Changing next later own reply) = 1
started_of (Ending reply) = 1
started_of Undoing = 1
started_of (Checking check) = 1

abbrev pub is_checking : Doing → Bool
is_checking Idle = false
is_checking (Changing next later own reply) = false
is_checking (Ending reply) = false
is_checking Undoing = false
is_checking (Checking check) = true

-- for how many items of a session there has to be room: four for each statement that isn't finished, one for each
-- change that may have to be undone, two for each change that is still to be made
abbrev pub owed_by : Session → ℕ
owed_by x = 4 * (length x.script.items - length x.replies.items) - started_of x.doing + (length x.left.items + 2 * pending_of x.doing)

-- a session has room for its replies and for the numbers of its changes
pub record HasOwnRoom (x : Session) : Type 0 where
  pub short : length x.script.items ≤ MOST_LINES
  pub replies : length x.script.items ≤ vec_capacity x.replies
  pub busy : length x.replies.items + started_of x.doing ≤ length x.script.items
  pub left : length x.left.items + pending_of x.doing ≤ vec_capacity x.left
  pub announced : length x.left.items + pending_of x.doing ≤ x.used
  pub used : x.used ≤ MOST_CHANGES

-- how many turns a statement that is under way still takes at most, over these items
abbrev pub turns_left : List Record → Session → Doing → ℕ
turns_left items x Idle = 0
turns_left items x (Changing next later own reply) = length later.items + 2
turns_left items x (Ending reply) = 1
turns_left items x Undoing = length x.left.items + 1
turns_left items x (Checking check) = steps_left items check + 1

-- how many its session's has left, none where there is no session
abbrev pub left_of_statement : List Record → Option Session → ℕ
left_of_statement items None = 0
left_of_statement items (Some x) = turns_left items x x.doing
