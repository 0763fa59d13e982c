-- A statement begins as it was planned.
use Rattle.std.specs.Prelude.{◌≡◌, ◌≢◌, ℕ, ◌+◌, ◌*◌, ◌≤◌, ◌==◌, Bool, true, false, if◌then◌else◌, List, [], ◌++◌, length, slice_get, slice_set, vec_len, vec_capacity, Some, Ok, Err, ◌⊎◌}
use Rattle.std.specs.declared.result.Result.{Result}
use Rattle.spec_log.specs.declared.limits.TheConstants.{MOST_CHANGES, MOST_BYTES}
use Rattle.spec_script.specs.declared.limits.TheConstants.{NO_MEMORY}
use Rattle.spec_file.specs.declared.data.Resource.{Resource}
use Rattle.spec_log.specs.declared.item.Record.{Record}
use Rattle.spec_log.specs.declared.item.Record.TheVariants.{Start}
use Rattle.spec_script.specs.declared.reply.Refusal.{Refusal}
use Rattle.spec_script.specs.declared.reply.Reply.{Reply}
use Rattle.spec_script.specs.declared.reply.Reply.TheVariants.{Refused}
use Rattle.spec_script.specs.declared.statement.Statement.{Statement}
use Rattle.spec_plan.specs.declared.plan.Planned.{Planned}
use Rattle.spec_plan.specs.Planned.{planned_size}
use Rattle.spec_plan.specs.Refusals.{out_of_memory}
use Rattle.spec_run.specs.Shapes.{Reading, Writing, tran_to_write}
use Rattle.spec_run.specs.Begun.{Becoming, becomes, with_memory, refused}
use Rattle.db_plan.specs.declared.planned.Plan.{Plan}
use Rattle.db_plan.specs.declared.planned.Plan.TheVariants as plan
use Rattle.db_plan.specs.declared.planned.PlanAt.{PlanAt}
use Rattle.db_plan.specs.Limits.{exceeds}
use Rattle.db_core.specs.declared.session.Doing.TheVariants.{Idle}
use Rattle.db_core.specs.declared.session.Session.{Session}
use Rattle.db_core.specs.declared.starts.StatementNo.{StatementNo}
use Rattle.db_core.specs.declared.state.State.{State}
use Rattle.db_core.specs.States.{whole_log, GoesOnWith, KeepsRoom, IsSame}
use Rattle.db_core.specs.Store.{run_is, log_of, IsGood, LeavesOthers}
use Rattle.db_core.specs.Words.{IsEnded}

-- how many changes the session's open transaction has announced
abbrev pub used_now : Session → ℕ
used_now x = if x.tran == 0 then 0 else x.used

-- the sums by which the session's next statement is planned
pub record HasSums (st : State) (x : Session) (at : PlanAt) : Type 0 where
  pub used : at.used_changes ≡ used_now x
  pub all_is : at.announced_changes ≡ st.all
  pub size_is : at.announced_bytes ≡ st.size

-- no limit is passed
abbrev pub IsWithin : ℕ → ℕ → ℕ → Plan → Type 0
IsWithin used all size (plan.Read reply) = Unit {0}
IsWithin used all size (plan.Written reply takes changes) = exceeds used all size (length changes.items) (planned_size changes.items) ≡ false

abbrev pub IsWithinIfPlanned : ℕ → ℕ → ℕ → Result Plan Refusal → Type 0
IsWithinIfPlanned used all size (Ok p) = IsWithin used all size p
IsWithinIfPlanned used all size (Err refusal) = Unit {0}

-- what becomes of a statement is by its plan, or by its refusal, which may be that for want of memory where it may want it
abbrev pub IsByPlan : Becoming → List Record → ℕ → Result Plan Refusal → Type 0
IsByPlan b log t (Ok (plan.Read reply)) = b ≡ with_memory (Reading t) reply
IsByPlan b log t (Ok (plan.Written reply takes changes)) = b ≡ with_memory (Writing (tran_to_write log t) takes changes.items (t == 0)) reply
IsByPlan b log t (Err refusal) = ((b ≡ refused t refusal) × ((refusal.number == NO_MEMORY) ≡ false)) ⊎ ((b.may_want ≡ true) × (refusal ≡ out_of_memory))

-- an idle session at `at` whose next statement was planned so
pub record IsPlanned (st : State) (at : ℕ) (x : Session) (result : Result Plan Refusal) : Type 0 where
  pub idle : x.doing ≡ Idle
  pub statement : Statement
  pub next : slice_get x.script.items (length x.replies.items) ≡ Some statement
  pub by_plan : IsByPlan (becomes (run_is st) (log_of st) x.tran statement) (whole_log (run_is st) (log_of st)) x.tran result
  pub within : IsWithinIfPlanned (used_now x) st.all st.size result

-- how many changes a plan has, and how many resources it takes
abbrev pub changes_in : Plan → ℕ
changes_in (plan.Read reply) = 0
changes_in (plan.Written reply takes changes) = length changes.items

abbrev pub takes_in : Plan → ℕ
takes_in (plan.Read reply) = 0
takes_in (plan.Written reply takes changes) = length takes

-- no more than a transaction may have
pub record AreSmall (changes : List Planned) : Type 0 where
  pub few : length changes ≤ MOST_CHANGES
  pub short : planned_size changes ≤ MOST_BYTES

abbrev pub IsSmall : Plan → Type 0
IsSmall (plan.Read reply) = Unit {0}
IsSmall (plan.Written reply takes changes) = AreSmall changes.items

-- a session has room for the numbers of so many changes and for so much that it takes
pub record HasRoomFor (x : Session) (changes takes : ℕ) : Type 0 where
  pub left : length x.left.items + changes ≤ vec_capacity x.left
  pub held : length x.held.items + takes ≤ vec_capacity x.held

-- there is room for the plan
pub record IsFree (st : State) (x : Session) (p : Plan) : Type 0 where
  pub items : vec_len st.items + (st.owed + 2 * changes_in p) ≤ vec_capacity st.items
  pub room : HasRoomFor x (changes_in p) (takes_in p)

abbrev pub IsFreeIfPlanned : State → Session → Result Plan Refusal → Type 0
IsFreeIfPlanned st x (Ok p) = IsFree st x p
IsFreeIfPlanned st x (Err refusal) = Unit {0}

-- the session may begin its statement
pub record IsReady (st : State) (at : ℕ) (x : Session) (result : Result Plan Refusal) : Type 0 where
  pub planned : IsPlanned st at x result
  pub free : IsFreeIfPlanned st x result

-- nothing has come about but room, and the session may begin its statement
pub record IsPrepared (at : ℕ) (old new : State) (result : Result Plan Refusal) : Type 0 where
  pub good : IsGood new
  pub run : run_is new ≡ run_is old
  pub log : log_of new ≡ log_of old
  pub few : length new.sessions.items ≡ length old.sessions.items
  pub others : LeavesOthers at old new
  pub ready : (y : Session) → slice_get new.sessions.items at ≡ Some y → IsReady new at y result

-- it writes, in transaction `tran`, of which this was left and held and announced before
pub record IsWriting (place : StatementNo) (tran : ℕ) (reply : Reply) (takes : List Resource) (changes : List Planned) (left : List ℕ) (held : List Resource) (used : ℕ) (own : Bool)
    (old new : Session) (x : Record) : Type 0 where
  pub item : x ≡ Start place.session place.index (record { 0 = tran }) 0 (length changes) (planned_size changes) takes
  pub script : new.script.items ≡ old.script.items
  pub tran_is : new.tran ≡ tran
  pub left_is : new.left.items ≡ left
  pub held_is : new.held.items ≡ held ++ takes
  pub used_is : new.used ≡ used + length changes
  pub goes : GoesOnWith changes own reply old new

-- in the open transaction, or in one of its own, the next after the greatest
abbrev pub Writes : ℕ → StatementNo → Reply → List Resource → List Planned → Session → Session → Record → Type 0
Writes last place reply takes changes old new x =
    ((old.tran ≡ 0) × IsWriting place (last + 1) reply takes changes [] [] 0 true old new x)
    ⊎ ((old.tran ≢ 0) × IsWriting place old.tran reply takes changes old.left.items old.held.items old.used false old new x)

-- the record of a statement by its plan or its refusal, and the session behind it
abbrev pub BeginsAs : ℕ → StatementNo → Result Plan Refusal → Session → Session → Record → Type 0
BeginsAs last place (Ok (plan.Read reply)) old new x = IsEnded place 0 reply old new x
BeginsAs last place (Ok (plan.Written reply takes changes)) old new x = Writes last place reply takes changes.items old new x
BeginsAs last place (Err refusal) old new x = IsEnded place refusal.number (Refused refusal) old new x

-- how many changes an item announces, and their bytes with an Undo for each
abbrev pub announced_by : Record → ℕ
announced_by (Start session index tran number changes size takes) = changes
announced_by other = 0

abbrev pub bytes_by : Record → ℕ
bytes_by (Start session index tran number changes size takes) = size + 17 * changes
bytes_by other = 0

-- a state with more room, of its own and in session `at`, and else the same
pub record IsRoomier (at : ℕ) (old new : State) : Type 0 where
  pub base : new.base ≡ old.base
  pub first : new.first ≡ old.first
  pub items : new.items.items ≡ old.items.items
  pub len : vec_len new.items ≡ vec_len old.items
  pub capacity : vec_capacity old.items ≤ vec_capacity new.items
  pub frames : new.frames ≡ old.frames
  pub last : new.last ≡ old.last
  pub all_is : new.all ≡ old.all
  pub size_is : new.size ≡ old.size
  pub owed : new.owed ≡ old.owed
  pub session : (x : Session) → slice_get old.sessions.items at ≡ Some x → (y : Session) × (new.sessions.items ≡ slice_set old.sessions.items at y) × IsSame x y × KeepsRoom x y
