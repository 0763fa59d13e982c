-- What becomes of a statement at its record, and what it owes from there on: its items, and what its session is told
-- after the last of them. All of this is fixed where the record stands (this project's own).
use Rattle.std.specs.Prelude.{◌≡◌, ℕ, ◌+◌, ◌==◌, Bool, true, false, if◌then◌else◌, List, [], ◌∷◌, ◌++◌, length, Option, Some, None}
use Rattle.spec_file.specs.declared.data.Resource.{Resource}
use Rattle.spec_file.specs.declared.geometry.Geometry.{Geometry}
use Rattle.spec_file.specs.Image.{Image, page, number_at}
use Rattle.spec_log.specs.declared.limits.TheConstants.{REPORTED, DAMAGED}
use Rattle.spec_log.specs.declared.item.Record.{Record}
use Rattle.spec_log.specs.Log.{greatest_of, left_of, holds, holder_of}
use Rattle.spec_log.specs.Limits.{passes_limit}
use Rattle.spec_log.specs.Images.{view_of, committed_image, damaged_page}
use Rattle.spec_check.specs.declared.report.CheckReport.{CheckReport}
use Rattle.spec_tables.specs.Written.{IsCheckOf}
use Rattle.spec_script.specs.declared.limits.TheConstants.{NO_MEMORY, IS_OPEN, NOTHING_TO_COMMIT, NOTHING_TO_UNDO}
use Rattle.spec_script.specs.declared.reply.Reply.{Reply}
use Rattle.spec_script.specs.declared.reply.Reply.TheVariants.{Done, Report, Terminated, Refused}
use Rattle.spec_script.specs.declared.reply.Cause.TheVariants.{Damaged}
use Rattle.spec_script.specs.declared.reply.Refusal.{Refusal}
use Rattle.spec_script.specs.declared.statement.Statement.{Statement}
use Rattle.spec_plan.specs.declared.plan.Planned.{Planned}
use Rattle.spec_plan.specs.Planned.{planned_size}
use Rattle.spec_plan.specs.Refusals.{is_open, nothing_to_commit, nothing_to_undo, log_full}
use Rattle.spec_words.specs.NetChanges.{FileShape}
use Rattle.spec_words.specs.Takes.{changes_at, takes_at}
use Rattle.spec_words.specs.Views.{View, beginning, End, Gives, Stops}
use Rattle.spec_statements.specs.Statements.{TransactionWord, Begins, Commits, RollsBack, StatementKind, Transacts, Plans, Checks, kind_of}
use Rattle.spec_run.specs.Shapes.{Shape, Refused as Refusing, Opening, Reading, Writing, Committing, RollingBack, Checking, items_by, plain_start, tran_to_write}

-- what a run begins with: the file's geometry, the log and the image as it finds them, the scripts of its sessions
pub record Setting : Type 0 where
  pub geometry : Geometry
  pub opened : List Record
  pub image : Image
  pub scripts : List (List Statement)

abbrev pub shape_of : Setting → FileShape
shape_of run = record { geometry = run.geometry; version = number_at 2 104 (page run.image 0); pages = length run.image }

-- what a session is told: a reply, or the report of an image by the check with this LSN
pub data Telling : Type 0 where
  Answers : Reply → Telling
  Reports : ℕ → Image → Telling

-- the reply is one that may be told
abbrev pub Tells : Geometry → Telling → Reply → Type 0
Tells g (Answers told) reply = reply ≡ told
Tells g (Reports lsn image) reply = (report : CheckReport) × (reply ≡ Report (record { 0 = lsn }) report) × IsCheckOf g image report

-- what a statement is planned on after these items of the run: what transaction t sees and holds, 0 for none
abbrev pub view_at : Setting → List Record → ℕ → View
view_at run log t =
    beginning (shape_of run) (view_of t run.opened log run.image) (λ r. holder_of (log ++ run.opened) r t) (λ r. holds (log ++ run.opened) t r)

-- what becomes of a statement: its shape, what its session is told, and whether memory may run out at its record, so
-- that one Start stands for all of it
pub record Becoming : Type 0 where
  pub shape : Shape
  pub telling : Telling
  pub may_want : Bool

-- BEGIN, COMMIT and ROLLBACK never want memory, a check wants it at its end
abbrev pub surely : Shape → Reply → Becoming
surely shape reply = record { shape = shape; telling = Answers reply; may_want = false }

abbrev pub with_memory : Shape → Reply → Becoming
with_memory shape reply = record { shape = shape; telling = Answers reply; may_want = true }

-- a word of transactions, after these items, in a session whose open transaction is t, 0 for none
abbrev pub by_word : List Record → ℕ → TransactionWord → Becoming
by_word log t Begins =
    if t == 0 then surely (Opening (greatest_of log + 1)) Done
    else surely (Refusing t IS_OPEN) (Refused is_open)
by_word log t Commits =
    if t == 0 then surely (Refusing t NOTHING_TO_COMMIT) (Refused nothing_to_commit) else surely (Committing t) Done
by_word log t RollsBack =
    if t == 0 then surely (Refusing t NOTHING_TO_UNDO) (Refused nothing_to_undo)
    else surely (RollingBack t (left_of t log)) Done

abbrev pub refused : ℕ → Refusal → Becoming
refused t refusal = with_memory (Refusing t refusal.number) (Refused refusal)

-- the limits of the log come last
abbrev pub by_changes : List Record → ℕ → Reply → List Resource → List Planned → Becoming
by_changes log t reply takes changes =
    if passes_limit log (tran_to_write log t) (length changes) (planned_size changes) then refused t log_full
    else with_memory (Writing (tran_to_write log t) takes changes (t == 0)) reply

-- a statement that has taken nothing doesn't write
abbrev pub by_taken : List Record → ℕ → Reply → View → List Resource → Becoming
by_taken log t reply view [] = with_memory (Reading t) reply
by_taken log t reply view (r ∷ taken) = by_changes log t reply (takes_at view) (changes_at view)

-- a planned statement, by the end of its plan
abbrev pub by_end : List Record → ℕ → End Reply → Becoming
by_end log t (Stops refusal) = refused t refusal
by_end log t (Gives reply view) = by_taken log t reply view view.taken

-- a check ends at the damaged page of the log as it was found, or with the report of what is committed
abbrev pub by_damage : Setting → List Record → Option ℕ → Becoming
by_damage run log None = record {
  shape = Checking [] REPORTED;
  telling = Reports (length (log ++ run.opened) + 1) (committed_image run.opened log run.image);
  may_want = false;
}
by_damage run log (Some p) = record { shape = Checking [] DAMAGED; telling = Answers (Terminated (Damaged (record { 0 = p }))); may_want = false }

abbrev pub by_kind : Setting → List Record → ℕ → StatementKind → Becoming
by_kind run log t (Transacts word) = by_word (log ++ run.opened) t word
by_kind run log t (Plans plan) = by_end (log ++ run.opened) t (plan (view_at run log t)).ending
by_kind run log t Checks = by_damage run log (damaged_page run.opened run.image)

-- a statement whose record follows these items, in a session whose open transaction is t, 0 for none
abbrev pub becomes : Setting → List Record → ℕ → Statement → Becoming
becomes run log t statement = by_kind run log t (kind_of (shape_of run) statement)

-- what a statement owes from its record on, what its session is told behind it, and the item that may stand for all of
-- it where memory runs out
pub record Begun : Type 0 where
  pub items : List Record
  pub telling : Telling
  pub want : Option Record

abbrev pub begun_by : ℕ → ℕ → ℕ → Becoming → Begun
begun_by s i t b = record {
  items = items_by s i b.shape;
  telling = b.telling;
  want = if b.may_want then Some (plain_start s i t NO_MEMORY) else None;
}

-- statement i of session s, whose open transaction is t
abbrev pub begun : Setting → List Record → ℕ → ℕ → ℕ → Statement → Begun
begun run log s i t statement = begun_by s i t (becomes run log t statement)
